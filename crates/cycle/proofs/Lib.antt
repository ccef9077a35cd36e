pub mod Steady
pub mod Bends
pub mod Rises
pub mod Fit
