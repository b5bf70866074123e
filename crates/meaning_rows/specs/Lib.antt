pub mod Words
pub mod Page
pub mod Values
pub mod Unlisted
