pub mod Apart
pub mod Drafts
pub mod Laws
