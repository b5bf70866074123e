pub mod TextRows
pub mod Heredocs
