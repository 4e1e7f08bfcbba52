pub mod CallerLemmas
pub mod PieceFacts
pub mod Derivatives
pub mod Operations
pub mod Kept
pub mod Merging
pub mod Making
pub mod Shapes
pub mod Ranging
pub mod Gathering
pub mod Waiting
pub mod Heads
pub mod RangesTo
pub mod Gathered
pub mod Choosing
pub mod Flat
mod Turns
