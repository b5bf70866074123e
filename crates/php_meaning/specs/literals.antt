-- The values that literals write.
pub mod Literals
pub mod Escapes
pub mod Nowdocs
pub mod TextLiterals
