pub mod Parts
pub mod Putting
pub mod Tracking
pub mod Defining
pub mod Waiting
pub mod Reaching
pub mod Closing
pub mod Pairing
