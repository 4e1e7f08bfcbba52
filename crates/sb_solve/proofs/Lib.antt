mod Words
pub mod Gathered
mod Declaring
pub mod Growing
pub mod Deciding
pub mod Entailing
pub mod LiveRows
pub mod Modelling
pub mod Stated
pub mod Ended
pub mod Truths
pub mod Goings
pub mod Answering
pub mod Claims
pub mod CallerLemmas
