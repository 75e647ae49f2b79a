pub mod Shifting
pub mod Framing
pub mod Sharing
pub mod Joining
pub mod Placing
pub mod Stepping
pub mod Rooting
