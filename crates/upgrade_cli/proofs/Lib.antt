pub mod Clear
pub mod Headlines
pub mod ReadyLemmas
pub mod Slices
pub mod Statuses
pub mod WholeLemmas
pub mod WritingLemmas
