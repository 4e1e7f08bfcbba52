pub mod Sets
pub mod Storing
pub mod Listing
pub mod Dropping
pub mod Keeping
pub mod Judging
pub mod Following
