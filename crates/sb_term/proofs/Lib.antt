pub mod CallerLemmas
pub mod SymbolEq
pub mod NodeEq
pub mod TableFacts
pub mod Marks
pub mod Descending
pub mod Knowing
