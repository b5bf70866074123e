pub mod Turns
pub mod Scripts
pub mod Passes
pub mod Bodies
