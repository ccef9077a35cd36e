pub mod Run
pub mod Choices
pub mod Legal
pub mod Beginning
pub mod Promise
pub mod Computing
pub mod Cases
