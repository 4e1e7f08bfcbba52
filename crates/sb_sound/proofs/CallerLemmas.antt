-- What a caller cites of literals: lists of them that ascend, equal ones in their order, those of a list that pass a
-- test, and their truth; of the clauses of an atom: what they say, and that they are gates; of tables of atoms: the
-- truth at a place, the atoms in front that an atom names, and more atoms; of clauses that stay where levels are left;
-- of lines that are whole, and of the step that ends a run; of assumptions that pass two tests, and of their truth as
-- terms; of elements of lists that pass a test.
pub use Rattle.sb_sound.proofs.HintForms.{ascend_form}
pub use Rattle.sb_sound.proofs.GateLiterals.{same_literal}
pub use Rattle.sb_sound.proofs.GateSayings.{clauses_say}
pub use Rattle.sb_sound.proofs.GateForms.{said_gate}
pub use Rattle.sb_sound.proofs.ClauseSets.{any_at, literal_holds-negation, any_of_both, any_negated}
pub use Rattle.sb_sound.proofs.PassFacts.{all_contained, all_from, any_of}
pub use Rattle.sb_sound.proofs.TableFacts.{IsTruthAt, truth_at_place, truths_from-front, names_from, all_in_front, literal_holds-take}
pub use Rattle.sb_sound.proofs.TableGrowth.{truths_from-append, length-truths_of, any_holds-front}
pub use Rattle.sb_sound.proofs.SoundLevels.{kept_at-up_to}
pub use Rattle.sb_sound.proofs.Accepting.{Contains-slice_get}
pub use Rattle.sb_sound.proofs.WholeLines.{whole_none, whole_both}
pub use Rattle.sb_sound.proofs.EventFacts.{is_exits, entry_exits}
pub use Rattle.sb_sound.proofs.SomeFacts.{filter_twice}
pub use Rattle.sb_sound.proofs.AssumedTerms.{assumed_holds, hold_both}
