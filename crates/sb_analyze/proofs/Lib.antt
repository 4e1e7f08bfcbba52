pub mod CallerLemmas
mod Teaching
pub mod Literals
pub mod Findings
pub mod Entries
pub mod Marks
pub mod Named
pub mod Chains
pub mod Walks
pub mod Orders
pub mod Starts
pub mod Lessons
pub mod Decisions
pub mod Assumptions
pub mod Minimal
