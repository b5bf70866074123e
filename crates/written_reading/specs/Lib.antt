pub mod drafts
pub mod edited
pub mod Spellings
pub mod Laws
pub mod Parted
