-- Runs: what they change, what a node may do, and how it is played.
pub mod World
pub mod Script
pub mod Paths
pub mod Stores
pub mod Locations
pub mod Kinds
pub mod Input
pub mod Run
