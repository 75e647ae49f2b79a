pub mod Counting
pub mod Calling
