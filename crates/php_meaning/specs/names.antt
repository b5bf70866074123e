-- What a program declares, and what its names stand for.
pub mod Refused
pub mod Tables
pub mod Reserved
pub mod Constants
