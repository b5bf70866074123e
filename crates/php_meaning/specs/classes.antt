-- Scripts of classes and objects.
pub mod Lines
pub mod Members
pub mod Declaring
pub mod Types
pub mod Properties
pub mod Preparing
pub mod Making
pub mod Methods
pub mod Statics
pub mod Exceptions
