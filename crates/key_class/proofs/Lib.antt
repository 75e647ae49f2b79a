pub mod Coding
pub mod Sharing
pub mod Seeding
pub mod Turns
