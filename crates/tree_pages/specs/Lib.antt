pub mod OneNode
pub mod Laid
