pub mod Tree
pub mod Places
pub mod Ids
pub mod Whole
