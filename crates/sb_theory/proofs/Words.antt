-- The words of the crates below, and of this one, that its proofs speak of.
pub use Rattle.std.proofs.Common.{Bool, Err, ap₂, List, None, Ok, Option, Result, Some, [], ap, append_assoc, arith, cond, eqb, false, filter, get_or, if◌then◌else◌, inl, inr, length, map, nat_eq, nat_le, nat_lt, not, option_and_then, refl, slice_get, subst, suc, sym, take, true, zero, ℕ, ◌++◌, ◌+◌, ◌-◌, ◌<◌, ◌||◌, ◌∙◌, ◌∷◌, ◌≡◌, ◌≤◌}
pub use Rattle.std.proofs.lemmas.Bool.{and_from, and_parts, eq-eqb, eqb-true, false_from_ne_true, false≢true, lt-ltb, or_cases, true≢false}
pub use Rattle.std.proofs.lemmas.Bool.Decides.{nat_tests}
pub use Rattle.std.proofs.lemmas.List.{append-nil, get_or_default, length-append, map-append, take-append-le, take_all, take_at, take_more}
pub use Rattle.std.proofs.lemmas.List.Elements.{All-filter, All-take, filter-append, filter_passes}
pub use Rattle.std.proofs.lemmas.List.Filters.{sum_by-filter_both}
pub use Rattle.std.proofs.lemmas.List.Folds.{list_all-map, list_any_more}
pub use Rattle.std.proofs.lemmas.List.Sums.{AllPass-from_list_all, list_all-from_AllPass, sum_by-take-le}
pub use Rattle.std.proofs.lemmas.Option.{get_or_from_slice_get, same_Some, slice_get_within}
pub use Rattle.std.proofs.lemmas.Result.{IfOk-from_err, IfOk-weaker, err_from_is_err_and, on_ok_weaker}
pub use Rattle.std.specs.List.{Contains, count_by, flat_map, list_any}
pub use Rattle.std.specs.Prelude.{◌≢◌, ◌⊎◌, ◌&&◌}
pub use Rattle.std.specs.List.Sorted.{IsPermutation}
pub use Rattle.std.specs.Result.{IsErr, IsErrAnd}
pub use mathlib.Core.Bool.{beq}
pub use Rattle.sb_facts.proofs.CallerLemmas.{all_push}
pub use Rattle.sb_lit.proofs.CallerLemmas.{all_among, all_from_among, is_same_literal-true, negation_twice}
pub use Rattle.sb_lit.specs.Budgets.{Spending}
pub use Rattle.sb_lit.specs.Clauses.{is_among, is_false_clause, is_false_under, is_same_literal, negation}
pub use Rattle.sb_trail.proofs.CallerLemmas.{cond_none, level_after-push, up_to-all, up_to-push_above}
pub use Rattle.sb_trail.specs.Assignments.{AreDistinct, entry_of, level_after, value_of}
pub use Rattle.sb_lang.specs.ConstructorLaws.{MkandKeepsLanguage, MknotKeepsLanguage}
pub use Rattle.sb_lang.specs.Constructors.{mknot}
unfoldable pub use Rattle.sb_lang.specs.Language.{language}
pub use Rattle.sb_script.specs.Pieces.{word_piece}
pub use Rattle.sb_rulebook.specs.Atoms.{and_atom, iff_atom, le_atom, sum_atom}
pub use Rattle.sb_rulebook.specs.Kept.{nothing_kept}
pub use Rattle.sb_sound.specs.HintLaws.{Ascend, HasNoSubset}
pub use Rattle.sb_sound.specs.MembershipLaws.{AreEmpty, EmptyHolds, EmptyIsExact, HasNone}
pub use Rattle.sb_proof.specs.declared.tape.TapeFault.{TapeFault}
pub use Rattle.sb_regex.proofs.CallerLemmas.{at_kept}
pub use Rattle.sb_regex.specs.Numbered.{Extends}
pub use Rattle.sb_store.proofs.CallerLemmas.{explored, regexes_both, regexes_same, walked}
pub use Rattle.sb_store.specs.Stores.{ArenaGrows}
pub use Rattle.sb_store.specs.declared.store.Store.{Store}
pub use Rattle.sb_clauses.specs.Propagation.{HasNoneFalse, has_room_for, is_reserved}
pub use Rattle.sb_search.specs.Asking.{AreAllKnown, CountsFaults, Falls, IsFair, decided}
pub use Rattle.sb_search.specs.declared.theory.Checked.{Checked}
pub use Rattle.sb_atoms.proofs.CallerLemmas.{atoms_kept, regexes_kept}
pub use Rattle.sb_graph.specs.Findings.{Findings}
pub use Rattle.sb_graph.specs.Witness.{IsFinding}
pub use Rattle.sb_graph.specs.declared.graph.Explored.{Explored}
pub use Rattle.sb_trace.proofs.CallerLemmas.{counts_none, counts_on, spent_both, spent_none}
pub use Rattle.sb_trace.specs.Putting.{CountsTapeFault, SpendsWithin}
pub use Rattle.sb_clash.proofs.CallerLemmas.{clash_grown, count_cons, denied_all, expands_one, in_all, is_denial, list_permuted, one_if, regex_below}
pub use Rattle.sb_clash.specs.Asked.{Explores}
pub use Rattle.sb_clash.specs.Denials.{Denying, IsDenial, Sofar, Ticks, sofar, with_denial}
pub use Rattle.sb_clash.specs.Literals.{AreAbout, AreClashing, AreFewer, AreSingle, IsAbout, asked_by, asked_by_all, number_in}
pub use Rattle.sb_theory.specs.Fronts.{AreFitting, AreRows, IsNoted, IsSet, IsWhole, Rises, is_front_true, is_in, number_at}
pub use Rattle.sb_theory.specs.Laws.{have_more, ungranted_longer, writes_both, writes_grown, writes_none, writes_still}
pub use Rattle.sb_theory.specs.Memberships.{AreMembers, HaveAtoms, IsPut, IsValid, are_atoms, constant_of, fits_pieces, fits_subject, is_about, is_atom, is_joined, is_joined_atom, is_subject, is_true_by, is_true_of, joined_word, literals_about, row_at, subject_of, word_at}
pub use Rattle.sb_theory.specs.Places.{IsAdded, IsCut, IsDropped, is_above}
pub use Rattle.sb_theory.specs.Strings.{Agrees, Answers, AreFew, Backs, ExpandsRelevant, Frame, Grows, HasClash, Holds, Intake, IsAsked, IsDenied, IsLook, IsOfMembership, IsPaid, IsQuiet, IsSettled, IsSofar, IsTriedNext, IsWished, IsWrong, Keeps, Looks, Stands, Tables, Writes, frame_of, intake_of, tables_of}
pub use Rattle.sb_theory.specs.Tables.{AreFormed, IsMembership, TableGrows, are_declared, is_sorted}
pub use Rattle.sb_theory.specs.Wishes.{IsLeft, IsWish, Wish, bases_of, behind_words, expanded_in, tails_in, tails_of, ungranted, wishes}
pub use Rattle.sb_theory.specs.Wanted.{IsTaught, is_of_wanted, is_wanted, wanted_of, wanted_on}
pub use Rattle.sb_theory.specs.Words.{AllKept, AreLevelled, Asked, Extends as TableExtends, Piece, Sort, Traced, Tracks, Ask, Assigned, Atom, AtomOver, Fine, HaveRegexesBelow, IsStore, Kept, KeptClause, Lemma, Lit, Names, Regex, RegexesGrow, Serial, Spent, Written, atoms_in, bool_atom, clause_holds, constant_piece, current_level, held, in_atom, kept_behind, list_all, regex_at, up_to, written}
pub use Rattle.sb_theory.specs.declared.strings.Strings.{Strings}
