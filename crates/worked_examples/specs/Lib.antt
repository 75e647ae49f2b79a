pub mod Trees
pub mod Examples
