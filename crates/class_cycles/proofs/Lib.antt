pub mod BackLemmas
pub mod OrderLemmas
pub mod ListLemmas
pub mod BeginLemmas
pub mod CircuitLemmas
pub mod NameLemmas
pub mod PlaceLemmas
pub mod LinkLemmas
pub mod CycleLemmas
pub mod ToldLaws
pub mod StandLemmas
pub mod OtherLemmas
mod CycleRows
