pub mod Tree
pub mod Insert
pub mod Remove
pub mod Search
pub mod Rules
pub mod Theorems
pub mod Writes
