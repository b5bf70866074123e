-- what the contract of `run` rests on
pub mod Lines
pub mod Outcome
pub mod Run
pub mod Headline
-- what the parts of a run rest on
pub mod Stops
pub mod Ready
pub mod Writing
pub mod Whole
