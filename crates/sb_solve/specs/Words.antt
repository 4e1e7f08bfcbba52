-- The words of the crates below that definitions and contracts speak of.
pub use Rattle.std.specs.List.{All, IsDistinct, list_all, list_any}
pub use Rattle.sb_lit.specs.Budgets.{Spending}
pub use Rattle.sb_lit.specs.Kept.{Kept, KeptClause, kept_at, kept_up_to}
pub use Rattle.sb_lit.specs.declared.clause.Lit.{Lit}
pub use Rattle.sb_trail.specs.Assignments.{IsConsistent, held, value_of}
pub use Rattle.sb_trail.specs.declared.assigned.Assigned.{Assigned}
pub use Rattle.sb_lang.specs.Regex.{Regex}
pub use Rattle.sb_meaning.specs.Terms.{Sort, Term, boolean, text}
pub use Rattle.sb_meaning.specs.Truth.{holds}
pub use Rattle.sb_meaning.specs.Values.{Valuation}
pub use Rattle.sb_script.specs.Pieces.{Piece, constant_piece}
pub use Rattle.sb_script.specs.State.{Assertion, Assumption, a_mark, asserted, live, live_terms}
pub use Rattle.sb_script.specs.WellSorted.{is_well_sorted}
pub use Rattle.sb_rulebook.specs.Accepted.{asked_in}
pub use Rattle.sb_rulebook.specs.AtomRules.{is_declared}
pub use Rattle.sb_rulebook.specs.Atoms.{Atom, AtomOver, and_atom, bool_atom, clause_holds, iff_atom, in_atom, literal_holds, truth_at, truths_of}
pub use Rattle.sb_rulebook.specs.Kept.{AllKept, Asked}
pub use Rattle.sb_rulebook.specs.Translation.{translation}
pub use Rattle.sb_sound.specs.ClauseForms.{of_sign}
pub use Rattle.sb_sound.specs.SoundLaws.{AreTerms}
pub use Rattle.sb_sound.specs.Tables.{HasWords, is_table}
pub use Rattle.sb_sound.specs.TermLaws.{HasSorts, fits_sorts}
pub use Rattle.sb_term.specs.Symbols.{sort_in}
pub use Rattle.sb_regex.specs.Numbered.{Extends}
pub use Rattle.sb_deriv.specs.Faithful.{Memo}
pub use Rattle.sb_store.specs.Stores.{Grows, IsStore, IsStoreOf, RegexesGrow}
pub use Rattle.sb_store.specs.declared.store.Store.{Store}
pub use Rattle.sb_search.specs.Following.{AreRefuted, FollowsByLevel}
pub use Rattle.sb_script.specs.Fragment.{is_decided}
pub use Rattle.sb_atoms.specs.Numbered.{AreDistinct, HaveRegexesBelow, Names, atom_in, atoms_in}
pub use Rattle.sb_stack.specs.Stacked.{Stacked, are_words, have_levels, live_constants, state_of, values_at}
pub use Rattle.sb_trace.specs.Putting.{CountsTapeFault, IsCounted}
pub use Rattle.sb_theory.specs.Memberships.{HaveAtoms, IsValid, are_atoms, is_atom, is_true_by, word_at}
pub use Rattle.sb_theory.specs.Strings.{Stands}
pub use Rattle.sb_theory.specs.Tables.{AreFormed, TableGrows, are_declared, is_declared_constant, is_sorted}
pub use Rattle.sb_theory.specs.Wanted.{wanted_on}
pub use Rattle.sb_refute.specs.Backing.{Backing, Backs, Evidences, EvidencesUncounted, HasGates, IsStatement, asserted_at}
pub use Rattle.sb_refute.specs.Settling.{KeptStay}
pub use Rattle.sb_refute.specs.Standing.{Stand}
pub use Rattle.sb_refute.specs.declared.evidence.Asserted.{Asserted}
pub use Rattle.sb_refute.specs.declared.evidence.EmptyClause.{EmptyClause}
