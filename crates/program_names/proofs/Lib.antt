mod TableRows
pub mod PathLemmas
mod ToldLemmas
