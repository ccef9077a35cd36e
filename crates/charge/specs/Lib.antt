pub mod Later
pub mod Weight
pub mod Split
pub mod Links
pub mod Cases
