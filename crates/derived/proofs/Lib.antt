-- Answers taken apart, and what rules on lists and ends give.
pub mod Answers
pub mod Gives
pub mod Values
pub mod Each
pub mod Fitted
pub mod Natures
pub mod Families
pub mod Fractions
pub mod Rounded
pub mod Ordered
pub mod Pooled
-- What passes 3 and 4 keeps to its form, and so does what is derived of it.
pub mod Allowed
pub mod Decoded
pub mod Signs
pub mod Made
pub mod Derived
pub mod Ended
pub mod Encoded
pub mod Written
-- The ranges that are derived of operands that pass 5.
pub mod Ranged
pub mod Uncrossed
pub mod Doubles
pub mod Infinite
-- As many entries and lists as columns.
pub mod Counted
-- No repeats in a list.
pub mod Distinct
