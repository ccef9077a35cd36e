pub mod Fields
pub mod Bytes
pub mod Put
pub mod Cases
