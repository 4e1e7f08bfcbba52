pub mod Numbered
pub mod Nodes
pub mod Interning
pub mod Table
pub mod Spine
pub mod Steps
pub mod Remembered
