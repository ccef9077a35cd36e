pub mod Unique
pub mod Budget
pub mod Composed
pub mod Adds
pub mod Whole
