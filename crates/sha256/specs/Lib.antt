pub mod Words
pub mod Constants
pub mod Message
pub mod Sum
