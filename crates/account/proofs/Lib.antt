pub mod Laid
pub mod Lays
pub mod Adds
pub mod Unique
pub mod Agree
