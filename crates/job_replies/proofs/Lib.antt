pub mod AddLemmas
pub mod ReplyLemmas
