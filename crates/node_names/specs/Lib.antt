pub mod Compared
pub mod Spelled
pub mod Declares
pub mod Uses
pub mod Slots
pub mod Facts
pub mod Drafts
pub mod Seen
