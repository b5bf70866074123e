pub mod Causes
pub mod Checks
pub mod KeyTable
pub mod Rules
pub mod SettingsView
