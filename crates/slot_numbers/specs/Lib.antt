pub mod Growing
pub mod Keys
pub mod Numbered
