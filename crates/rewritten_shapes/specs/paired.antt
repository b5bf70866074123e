pub mod Laws
pub mod Names
pub mod Paired
pub mod Tokens
pub mod Traits
