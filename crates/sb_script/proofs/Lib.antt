pub mod CallerLemmas
mod FoundLemmas
mod ReadingFacts
mod AskedTerms
mod SortedTerms
mod CommandLemmas
mod StepLemmas
mod LevelLemmas
mod SortedSteps
mod OrderedSums
mod OppositeSums
