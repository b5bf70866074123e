pub mod Ahead
pub mod Classify
pub mod Indents
pub mod Marked
pub mod Marks
pub mod Terminals
pub mod Words
pub mod Tokens
