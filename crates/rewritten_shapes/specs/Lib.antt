pub mod paired
pub mod RefusedWords
pub mod Laws
