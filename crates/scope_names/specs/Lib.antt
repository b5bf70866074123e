pub mod Words
pub mod Form
pub mod Slot
pub mod Imports
pub mod Sites
pub mod Numbers
