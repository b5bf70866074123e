-- Scripts of functions.
pub mod Bodies
