pub mod Padding
pub mod Words
