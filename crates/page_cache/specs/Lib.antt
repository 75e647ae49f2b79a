pub mod Slots
pub mod Policy
pub mod Over
pub mod Cached
pub mod Laws
