pub mod IndentLemmas
pub mod WordLemmas
pub mod NextTokens
pub mod SlotLemmas
pub mod MarksMade
