-- The words of the crates below, and of this one, that its proofs speak of.
pub use Rattle.std.proofs.Common.{All, Bool, Contains, Err, IfSome, List, None, Ok, Option, Result, Some, [], ap, append-nil, append_assoc, ap₂, arith, false, get_or, if◌then◌else◌, inl, inr, is_some, length, length-append, map, nat_eq, nat_lt, option_map, refl, replicate, set, slice_get, subst, suc, sym, take, true, unwrap_or, zero, ℕ, ◌&&◌, ◌++◌, ◌+◌, ◌-◌, ◌<◌, ◌^◌, ◌||◌, ◌∙◌, ◌∷◌, ◌≡◌, ◌≢◌, ◌≤◌, ◌⊎◌}
pub use Rattle.std.proofs.Math.Seq.{take-nil}
pub use Rattle.std.proofs.lemmas.Bool.{and_from, and_parts, false≢true, le-ltb, lt-ltb, ltb-true}
pub use Rattle.std.proofs.lemmas.Bool.Decides.{nat_tests}
pub use Rattle.std.proofs.lemmas.Grind.{common_steps}
pub use Rattle.std.proofs.lemmas.List.{length-map, length-take-le, map-append, take_all, take_more}
pub use Rattle.std.proofs.lemmas.List.Elements.{All-cons, All-nil}
pub use Rattle.std.proofs.lemmas.Option.{get_or_from_slice_get, none-some, same_Some, slice_get-get_or, slice_get-map, slice_get_within, unwrap_or-slice_get}
pub use Rattle.std.proofs.lemmas.Result.{IfOk-from_err, IfOk-weaker, err_from_is_err_and, on_ok_weaker}
pub use Rattle.std.specs.List.{list_all}
pub use Rattle.std.specs.Result.{IfOk, OnErr}
pub use Rattle.std.specs.declared.cmp.Ordering.{Ordering}
pub use Rattle.sb_facts.proofs.CallerLemmas.{all_append, all_push, all_weaker, some-none, told_err, told_ok}
pub use Rattle.sb_word.specs.Words.{are_characters, is_character}
pub use Rattle.sb_lit.proofs.CallerLemmas.{all_from_among, among_negated, negation_twice}
pub use Rattle.sb_lit.specs.Budgets.{Spending}
pub use Rattle.sb_lit.specs.Clauses.{are_among, are_ascending, is_among, is_false_clause, literal_order, negation}
pub use Rattle.sb_lit.specs.Hints.{is_repeated}
pub use Rattle.sb_lit.specs.Kept.{Kept, KeptClause, kept_at, kept_up_to, stays_up_to}
pub use Rattle.sb_lit.specs.declared.clause.Lit.{Lit}
pub use Rattle.sb_lang.specs.Regex.{Regex}
pub use Rattle.sb_meaning.specs.Terms.{Term}
pub use Rattle.sb_script.specs.Brought.{is_structure}
pub use Rattle.sb_script.specs.Pieces.{Piece, constant_piece, word_piece}
pub use Rattle.sb_script.specs.Steps.{line}
pub use Rattle.sb_rulebook.specs.AtomRules.{are_known, has_its_parts}
pub use Rattle.sb_rulebook.specs.Atoms.{Atom, AtomOver, and_atom, are_pieces, bool_atom, iff_atom, in_atom, is_well_formed, le_atom, sum_atom}
pub use Rattle.sb_rulebook.specs.Follows.{follows}
pub use Rattle.sb_rulebook.specs.Gates.{clauses_of, gate, is_gate}
pub use Rattle.sb_rulebook.specs.Kept.{AllKept, Asked, all_dropped, dropped_above, most_counted, with_clause}
pub use Rattle.sb_rulebook.specs.LineLaws.{is_small, is_small_literal}
pub use Rattle.sb_rulebook.specs.Lines.{assertion_line, rule_line, text_of}
pub use Rattle.sb_rulebook.specs.Splits.{is_step}
pub use Rattle.sb_rulebook.specs.Tables.{names_below}
pub use Rattle.sb_rulebook.specs.Translation.{in_order, translation, with_literal}
pub use Rattle.sb_sound.proofs.CallerLemmas.{ascend_form, kept_at-up_to}
pub use Rattle.sb_sound.specs.ClauseLaws.{AssertionLinesAreExact, RuleLinesAreExact}
pub use Rattle.sb_sound.specs.GateLaws.{GatesAreExact}
pub use Rattle.sb_proof.specs.Tapes.{with_bytes}
pub use Rattle.sb_term.specs.Numbered.{term_at}
pub use Rattle.sb_clauses.specs.Propagation.{HasNoneFalse, IsConflict, State, are_reserved, has_room_for, is_reserved}
pub use Rattle.sb_deriv.specs.Faithful.{KeepsEntries, Memo}
pub use Rattle.sb_atoms.proofs.CallerLemmas.{atoms_kept, earlier_more, earlier_none, named_before}
pub use Rattle.sb_atoms.specs.GateClauses.{atom_at, clause_of, gate_clauses, is_trivial}
pub use Rattle.sb_atoms.specs.Numbered.{Extends, HasRegexBelow, HaveRegexesBelow, IsWith, NameEarlier, Names, atoms_in, over}
pub use Rattle.sb_atoms.specs.Translated.{AreDefined, brought_translation}
pub use Rattle.sb_trace.proofs.CallerLemmas.{counts_none, counts_on, puts_both, puts_none, puts_one, only_numbers_same, tracks_grow}
pub use Rattle.sb_trace.specs.Putting.{CountsTapeFault, IsCounted}
pub use Rattle.sb_trace.specs.Tracking.{OnlyNumbers, Traced, Tracks}
pub use Rattle.sb_split.proofs.CallerLemmas.{called_none, called_on, take_known, tracks_beside}
pub use Rattle.sb_split.specs.Defining.{AreDue, Called, DefinesAtoms}
pub use Rattle.sb_refute.specs.Assuming.{literals_at, literals_in}
pub use Rattle.sb_refute.specs.Backing.{AreUpTo, Backing, Backs, Evidences, EvidencesUncounted, HasGates, HasGatesOf, IsLowestEmpty, IsStatement, KeepsAsserted, asserted_at, backing_of, empty_at, left_above, left_all, refuted_up_to, unit_at}
pub use Rattle.sb_refute.specs.Lines.{Becomes, IsAlone, IsAssertion, IsClaimed, IsCover, IsEmptyOf, IsLettersOf, IsOfGates, IsStanding, Leads, LeadsAlways, LeadsClaimed, SpeaksAlone, at_bottom, lower_of, placed}
pub use Rattle.sb_refute.specs.Settling.{IsCovered, IsBareAtom, KeptStay, are_letters, is_letters, letters_in, letters_of, pieces_of_word, word_in}
pub use Rattle.sb_refute.specs.Standing.{Stand}
pub use Rattle.sb_refute.specs.declared.evidence.Asserted.{Asserted}
pub use Rattle.sb_refute.specs.declared.evidence.EmptyClause.{EmptyClause}
