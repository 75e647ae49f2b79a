pub mod Steps
pub mod Finding
pub mod Looks
pub mod Turns
