-- Values, and what is done with them.
pub mod Value
pub mod Ints
pub mod Text
pub mod TextClasses
pub mod Convert
pub mod Keys
pub mod Compare
pub mod Cells
pub mod Identical
pub mod Bits
pub mod Arrays
pub mod Copies
pub mod Arithmetic
pub mod Offsets
pub mod Same
