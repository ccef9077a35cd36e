pub mod Cells
pub mod Verdict
pub mod Answered
pub mod Told
pub mod Agree
pub mod Budget
pub mod InTime
pub mod Sample
