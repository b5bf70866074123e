pub mod Files
pub mod Nodes
