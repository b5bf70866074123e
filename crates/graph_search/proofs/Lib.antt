pub mod EdgeLemmas
pub mod MarkLemmas
