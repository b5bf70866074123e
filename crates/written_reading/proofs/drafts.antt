pub mod Order
pub mod Drawn
pub mod Texts
pub mod Within
pub mod Stays
pub mod Apart
pub mod SafeTexts
pub mod SafeRows
