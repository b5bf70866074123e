pub mod FieldLemmas
pub mod HeadLemmas
pub mod NumberLemmas
pub mod ReadingLemmas
pub mod RouteLemmas
pub mod ScanLemmas
pub mod SlashLemmas
pub mod TakenLemmas
