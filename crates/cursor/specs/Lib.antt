pub mod Ways
pub mod Awaits
pub mod Looks
