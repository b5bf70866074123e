pub mod EntryLemmas
pub mod MadeLemmas
pub mod NameLemmas
pub mod PlaceLemmas
pub mod PlanLemmas
pub mod Refusals
pub mod MeaningLemmas
pub mod RowLemmas
