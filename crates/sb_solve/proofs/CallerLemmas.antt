-- What a caller cites of what is true of the evidence: it stays true behind lines that follow, and whatever is counted.
pub use Rattle.sb_solve.proofs.Truths.{backs-again, sound-behind, true-behind}
