pub mod Puts
pub mod Positions
pub mod Stacks
pub mod RegexLines
pub mod Numbering
pub mod Growing
pub mod Branches
pub mod Classes
pub mod Exits
pub mod ExpansionLines
pub mod Expanding
pub mod Views
pub mod DeadLines
pub mod Marks
pub mod Closures
pub mod Reached
pub mod Counts
pub mod Spent
pub mod CallerLemmas
mod Rooms
mod Turns
pub mod Pairs
pub mod PiecePairs
