pub mod Lines
pub mod Fields
pub mod Tapes
pub mod Spelled
pub mod Reading
pub mod Views
pub mod Kinds
