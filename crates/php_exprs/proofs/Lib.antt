pub mod Forests
pub mod Grown
pub mod Sound
pub mod Complete
pub mod Steps
pub mod Exact
pub mod StatementLemmas
pub mod Placed
pub mod Exprs
mod Rows
