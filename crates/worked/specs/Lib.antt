pub mod Question
pub mod Starred
pub mod Beside
pub mod Promised
