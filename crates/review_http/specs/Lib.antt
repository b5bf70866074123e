pub mod Replies
pub mod Serves
