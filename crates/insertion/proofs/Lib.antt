pub mod Asking
pub mod Filling
pub mod Growing
pub mod Counting
pub mod Stepping
pub mod Rooting
