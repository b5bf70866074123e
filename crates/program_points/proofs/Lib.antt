mod FollowingLemmas
mod EdgeRows
pub mod ChainLemmas
pub mod WordLemmas
pub mod ExpressionLemmas
pub mod BranchLemmas
pub mod LoopLemmas
pub mod ReadingLemmas
pub mod SwitchLemmas
pub mod DeclaringLemmas
pub mod TryLemmas
pub mod AroundLemmas
pub mod WalkLemmas
pub mod FileLemmas
pub mod NumberLemmas
