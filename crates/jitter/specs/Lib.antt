pub mod Request
pub mod Plain
pub mod Agree
pub mod Cases
pub mod Start
