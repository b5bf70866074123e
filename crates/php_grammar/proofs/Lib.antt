pub mod EdgeLemmas
pub mod PartLemmas
pub mod Ranks
pub mod Placeless
