pub mod Laid
pub mod Edited
pub mod Listed
pub mod Kept
pub mod Answered
