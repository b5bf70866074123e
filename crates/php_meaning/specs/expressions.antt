-- Scripts of expressions.
pub mod Operators
pub mod Assigning
pub mod QuotedTexts
pub mod Expressions
