mod LengthLemmas
mod Rows
