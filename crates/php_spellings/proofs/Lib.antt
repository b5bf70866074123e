pub mod StartLemmas
pub mod KeywordLemmas
pub mod ValueLemmas
