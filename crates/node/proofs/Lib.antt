pub mod Rows
pub mod Places
pub mod Marks
pub mod Questions
pub mod Edits
pub mod Pools
