pub mod Built
pub mod Expr
pub mod Parsing
pub mod Parsed
pub mod Reading
