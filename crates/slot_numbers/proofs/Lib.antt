pub mod GrowLemmas
pub mod KeyLemmas
pub mod NumberLemmas
pub mod SeenLemmas
