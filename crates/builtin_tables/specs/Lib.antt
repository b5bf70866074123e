pub mod Beyond
pub mod Builtins
pub mod Constants
pub mod Named
pub mod Newer
