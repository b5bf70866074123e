pub mod Decides
mod Serves
