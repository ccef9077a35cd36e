pub mod Scan
pub mod Parts
pub mod Write
pub mod Cases
