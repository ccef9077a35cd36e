pub mod Difference
pub mod Congruence
pub mod Phase
pub mod Charge
pub mod Slide
pub mod Quotient
