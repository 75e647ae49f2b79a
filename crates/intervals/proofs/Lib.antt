pub mod Points
pub mod Marking
