pub mod Ranges
pub mod Weights
pub mod Split
pub mod Along
pub mod Links
pub mod Loads
pub mod Phases
