pub mod Slots
pub mod Laying
pub mod Ties
pub mod Steps
pub mod Answered
