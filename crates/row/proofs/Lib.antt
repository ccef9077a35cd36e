pub mod Readers
pub mod Held
pub mod Rows
pub mod Fields
pub mod Longer
pub mod Cases
