pub mod Told
pub mod Sample
