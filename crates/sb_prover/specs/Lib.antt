pub mod Proving
pub mod Saying
pub mod Checking
