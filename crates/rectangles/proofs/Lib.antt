pub mod Corners
pub mod Points
