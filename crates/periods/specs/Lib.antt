pub mod Phase
pub mod Charge
