pub mod ContinuesAs
pub mod IsRewrittenTo
pub mod Going
pub mod CodeTokens
pub mod Edits
