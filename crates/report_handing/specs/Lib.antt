pub mod Sinks
pub mod Handing
