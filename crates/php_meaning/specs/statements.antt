-- Scripts of statements that run others.
pub mod Loops
