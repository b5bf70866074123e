-- in the order in which they are read
pub mod Files
pub mod Limits
pub mod Trees
pub mod Names
pub mod Upgrade
pub mod Outcome
-- what the parts of an upgrade rest on
pub mod Rows
pub mod Made
pub mod Named
pub mod Meaning
