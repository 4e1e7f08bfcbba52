pub mod Asking
pub mod Following
pub mod Found
pub mod Searching
pub mod Turning
pub mod Writing
