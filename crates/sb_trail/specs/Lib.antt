pub mod Assignments
pub mod Compact
pub mod Tables
