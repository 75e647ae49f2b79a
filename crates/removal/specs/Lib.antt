pub mod Refusals
pub mod Mending
pub mod Under
pub mod Whole
