pub mod Accepts
pub mod Bases
pub mod Edges
pub mod Levels
pub mod Operands
pub mod Tables
pub mod Tails
