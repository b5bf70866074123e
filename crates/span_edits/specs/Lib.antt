pub mod Crosses
pub mod EditList
pub mod Places
pub mod Splice
