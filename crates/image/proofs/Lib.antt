pub mod Cells
pub mod DueAt
pub mod Filled
pub mod Decoded
pub mod Walk
