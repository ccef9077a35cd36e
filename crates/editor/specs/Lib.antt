pub mod Editor
pub mod Cases
