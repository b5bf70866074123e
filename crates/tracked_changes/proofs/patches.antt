pub mod Leads
pub mod Splicing
