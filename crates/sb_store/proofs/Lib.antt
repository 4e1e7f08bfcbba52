mod Growing
pub mod CallerLemmas
