pub mod Fields
pub mod Passes
pub mod Read
pub mod Ways
pub mod Answered
pub mod Agree
pub mod Sample
