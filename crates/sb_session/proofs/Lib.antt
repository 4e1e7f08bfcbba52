mod Words
pub mod WritingLemmas
pub mod CheckLemmas
pub mod CommandLemmas
pub mod LeavingLemmas
pub mod ReadingLemmas
pub mod TurnLemmas
pub mod PieceLemmas
mod DeclaredLemmas
pub mod UndecidedLemmas
pub mod EndLemmas
pub mod ScriptLemmas
pub mod SolveLemmas
pub mod CertifyingLemmas
pub mod ReplyingLemmas
