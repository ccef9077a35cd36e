pub mod Parts
pub mod Tiles
pub mod Answer
pub mod Walk
pub mod Spots
pub mod Refused
