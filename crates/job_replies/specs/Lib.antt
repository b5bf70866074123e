pub mod Added
pub mod Received
pub mod Said
