pub mod Head
pub mod Fill
pub mod Read
pub mod Due
pub mod Cases
