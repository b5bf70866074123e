pub mod Flat
pub mod Named
pub mod Seen
pub mod Standing
pub mod Past
pub mod Opened
pub mod Dispatch
pub mod UseRoles
