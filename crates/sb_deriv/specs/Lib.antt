pub mod Pieces
pub mod Faithful
pub mod Choices
pub mod Targets
