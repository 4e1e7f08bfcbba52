pub mod CallerLemmas
pub mod Told
pub mod WriteLemmas
