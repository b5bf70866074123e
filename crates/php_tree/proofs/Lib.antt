pub mod Placed
pub mod PlaceLemmas
pub mod Preorder
pub mod Trees
