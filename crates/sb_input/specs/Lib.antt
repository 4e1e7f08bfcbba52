pub mod Pieces
pub mod TakingEntries
pub mod KeepingEntries
pub mod TakingLines
pub mod KeepingLines
