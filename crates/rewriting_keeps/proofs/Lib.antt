pub mod Formed
pub mod DirectNames
pub mod Kept
