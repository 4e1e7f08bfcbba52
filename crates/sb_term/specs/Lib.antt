pub mod Symbols
pub mod Numbered
pub mod Nodes
pub mod Parameters
pub mod Descending
pub mod Serials
pub mod Interning
