pub mod ServeLemmas
pub mod ShownLemmas
