pub mod Promised
pub mod Unmarked
