pub mod CallerLemmas
pub mod DigitLemmas
mod Examples
pub mod WordLemmas
pub mod HexLemmas
pub mod LiteralLemmas
pub mod OneWord
pub mod EscapeLemmas
pub mod LiteralWordLemmas
pub mod FrontLemmas
pub mod NumeralLemmas
