pub mod Bits
pub mod Put
