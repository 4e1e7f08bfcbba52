pub mod CutPoints
pub mod Memory
pub mod Making
pub mod Walking
pub mod Staying
