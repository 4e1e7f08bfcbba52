-- What a caller cites of terms: the code by which proofs tell them apart where a model's value holds them.
pub use Rattle.sb_meaning.proofs.TermCodes.{coded_term}
