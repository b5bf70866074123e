pub mod JobsLemmas
pub mod JobsMapLemmas
pub mod MachineLemmas
pub mod OwnerJobsLemmas
pub mod RepeatLemmas
