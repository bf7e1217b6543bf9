-- A well-formed sheet comes back from its bytes; `Back` has the laws for whole sheets.
pub mod Standing
pub mod Pieces
pub mod Values
pub mod Arrays
pub mod Table
pub mod Fields
pub mod Spans
pub mod Lists
pub mod Texts
pub mod Natures
pub mod Back
-- Bytes that pass 3 to 5 are the bytes of what they spell; `BytesBack` has the laws for whole sheets.
pub mod Filling
pub mod Marks
pub mod Heads
pub mod Ranges
pub mod InOrder
pub mod Area
pub mod Spelled
pub mod BytesBack
