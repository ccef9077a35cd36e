pub mod Lent
pub mod Proposition
pub mod Search
pub mod Told
pub mod Agree
