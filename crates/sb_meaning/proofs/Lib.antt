pub mod CallerLemmas
pub mod TermCodes
