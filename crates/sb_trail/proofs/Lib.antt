pub mod CallerLemmas
pub mod CompactLemmas
pub mod EntryLemmas
pub mod TableLemmas
pub mod ValueLemmas
