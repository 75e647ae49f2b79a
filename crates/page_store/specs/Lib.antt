pub mod Pages
pub mod Refusals
pub mod Calls
