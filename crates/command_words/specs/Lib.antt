pub mod Words
pub mod ServeWords
