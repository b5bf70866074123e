pub mod Files
pub mod Whole
pub mod Table
pub mod Classes
pub mod Entries
pub mod Told
