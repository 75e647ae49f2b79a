pub mod Layout
pub mod Groups
pub mod Array
pub mod Laws
