pub mod Exact
pub mod Demand
pub mod Within
pub mod Asks
pub mod Good
pub mod Shown
pub mod OwnColumns
