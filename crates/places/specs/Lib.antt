pub mod Held
pub mod Owner
pub mod About
pub mod Find
pub mod Cases
