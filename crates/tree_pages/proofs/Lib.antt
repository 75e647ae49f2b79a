pub mod Least
pub mod Entries
pub mod Lying
pub mod Over
pub mod Once
pub mod Sets
pub mod Laying
pub mod Standing
