pub mod CallerLemmas
pub mod Lists
pub mod Beginnings
pub mod Heads
pub mod Splits
pub mod Stronger
