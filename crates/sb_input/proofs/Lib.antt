pub mod CallerLemmas
pub mod PieceLemmas
pub mod EntryLemmas
pub mod LineLemmas
pub mod SearchLemmas
