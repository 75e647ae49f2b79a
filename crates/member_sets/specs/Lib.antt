pub mod Members
pub mod BitLaws
pub mod Below
pub mod Joining
pub mod Sets
pub mod Reading
pub mod Covering
