pub mod Words
pub mod AskedFacts
pub mod FewerFacts
pub mod DenialFacts
pub mod ExpandedFacts
pub mod CallerLemmas
