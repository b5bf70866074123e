pub mod CauseLaws
pub mod FileLaws
mod Places
pub mod WrittenLaws
