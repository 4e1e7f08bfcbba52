-- The words of the crates below that definitions and contracts speak of.
pub use Rattle.std.specs.List.{list_all, list_any}
pub use Rattle.sb_lit.specs.Kept.{Kept, KeptClause, kept_at}
pub use Rattle.sb_lit.specs.declared.clause.Lit.{Lit}
pub use Rattle.sb_lang.specs.Regex.{Regex, eps, none}
pub use Rattle.sb_regex.specs.Numbered.{regex_at}
pub use Rattle.sb_trail.specs.Assignments.{AreLevelled, current_level, held, up_to}
pub use Rattle.sb_trail.specs.declared.assigned.Assigned.{Assigned}
pub use Rattle.sb_store.specs.Stores.{IsStore, RegexesGrow}
pub use Rattle.sb_term.specs.declared.term.Serial.{Serial}
pub use Rattle.sb_script.specs.Pieces.{Piece, constant_piece, word_piece}
pub use Rattle.sb_rulebook.specs.Atoms.{Atom, AtomOver, bool_atom, clause_holds, in_atom, is_well_formed}
pub use Rattle.sb_meaning.specs.Terms.{Sort}
pub use Rattle.sb_lang.specs.Constructors.{mkpath}
pub use Rattle.sb_lang.specs.Derivative.{nd_along}
pub use Rattle.sb_rulebook.specs.Kept.{AllKept, Asked, counting, most_counted, rests_of_any, with_clause}
pub use Rattle.sb_atoms.specs.Numbered.{Extends, HaveRegexesBelow, Names, atom_in, atoms_in, over}
pub use Rattle.sb_trace.specs.Tracking.{Traced, Tracks}
pub use Rattle.sb_search.specs.Writing.{Written, kept_behind, true_or_false, with_gate, with_learned, written}
pub use Rattle.sb_sound.specs.HintLaws.{Ascend}
pub use Rattle.sb_search.specs.declared.theory.Checked.TheVariants.{Ask, Fine, Lemma, Spent}
