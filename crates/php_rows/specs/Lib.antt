pub mod Flatten
pub mod Rows
pub mod Reading
pub mod File
pub mod Nodes
pub mod Kinds
