pub mod Whole
pub mod Plain
pub mod Handle
