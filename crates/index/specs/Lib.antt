pub mod Parts
pub mod Standing
pub mod Inserting
pub mod Searching
pub mod Removing
