pub mod FactLemmas
pub mod ImportLemmas
pub mod IncludeLemmas
pub mod LooseLemmas
pub mod RoleRows
pub mod TellLemmas
pub mod Walking
pub mod WordLemmas
