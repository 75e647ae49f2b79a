pub mod Class
pub mod Words
pub mod Refusals
pub mod Joined
pub mod Quadratic
pub mod Span
