-- What a caller cites of atoms: those of kept clauses are known that have places.
pub use Rattle.sb_theory.proofs.Known.{all_known}
