pub mod Members
pub mod Starts
pub mod Choices
pub mod Passing
pub mod Strongest
