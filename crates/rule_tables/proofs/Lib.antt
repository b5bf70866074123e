pub mod Documents
pub mod FirstRefused
pub mod KeyTableRows
pub mod Outcomes
pub mod RulesOff
mod TableRows
