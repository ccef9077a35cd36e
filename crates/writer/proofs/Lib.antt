pub mod Behind
pub mod Scanned
pub mod Laid
pub mod Walk
pub mod Outcome
pub mod Returned
