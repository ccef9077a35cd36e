pub mod Cells
pub mod Code
pub mod Answered
pub mod Told
pub mod Budget
