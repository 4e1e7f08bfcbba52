pub mod Words
pub mod Added
pub mod Steps
pub mod Covers
pub mod Fronts
pub mod Defining
