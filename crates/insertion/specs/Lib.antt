pub mod Refusals
pub mod Way
pub mod Filling
pub mod Under
pub mod Whole
