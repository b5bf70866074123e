pub mod Cycles
pub mod Names
pub mod Others
pub mod Circuits
pub mod Back
pub mod Begins
pub mod Walked
