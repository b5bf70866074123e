pub mod tokens
pub mod tiles
pub mod texts
pub mod names
