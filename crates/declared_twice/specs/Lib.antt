pub mod Asked
pub mod FirstPair
pub mod FirstTwice
pub mod Includes
pub mod Keys
pub mod Later
pub mod Marked
pub mod Runs
