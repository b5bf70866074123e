pub mod Json
pub mod Judgement
pub mod Upload
