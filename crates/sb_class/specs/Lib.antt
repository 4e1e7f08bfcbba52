pub mod Ranges
pub mod Ends
