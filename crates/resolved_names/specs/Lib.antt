pub mod Index
pub mod NodeReads
pub mod Ranges
pub mod Reads
pub mod Refusals
pub mod Resolved
pub mod SlotNumbers
pub mod SlotReads
