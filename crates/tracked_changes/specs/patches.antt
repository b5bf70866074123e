pub mod Patches
pub mod Rewritten
pub mod Changes
pub mod Laws
