pub mod ByWords
pub mod SingleBits
