-- The words of the crates below, and of this one, that its proofs speak of.
pub use Rattle.std.proofs.Common.{Bool, Err, List, None, Ok, Option, Result, Some, [], ap, append_assoc, ap₂, arith, cond, drop, false, get_or, if◌then◌else◌, inl, inr, length, map, nat_eq, nat_lt, not, option_and_then, option_map, refl, slice_get, subst, suc, sym, take, true, unwrap_or, zero, ℕ, ◌&&◌, ◌++◌, ◌+◌, ◌-◌, ◌<◌, ◌==◌, ◌^◌, ◌∙◌, ◌∷◌, ◌≡◌, ◌≢◌, ◌≤◌, ◌⊎◌}
pub use Rattle.std.proofs.Math.Seq.{take-append_seam}
pub use Rattle.std.proofs.lemmas.Bool.{and_from, and_parts, eq-eqb, eqb-false, eqb-true, false≢true, le-ltb, lt-ltb, ltb-false, ltb-true, ne_eqb, or_cases, or_left, or_right}
pub use Rattle.std.proofs.lemmas.Bool.Decides.{nat_tests}
pub use Rattle.std.proofs.lemmas.List.{append-nil, drop-map, drop_all, drop_more, length-map, map-append, take-append-drop, take-append-le, take-map, take_all, take_more}
pub use Rattle.std.proofs.lemmas.List.Folds.{list_all-append, list_all-map, list_any-append, list_any_none}
pub use Rattle.std.proofs.lemmas.Map.Views.{any-filter_same}
pub use Rattle.std.proofs.lemmas.Option.{get_or_from_slice_get, same_Some, slice_get-get_or, slice_get-map, slice_get_within, unwrap_or-slice_get}
pub use Rattle.std.proofs.lemmas.Result.{IfOk-from_err, IfOk-weaker, err_from_is_err_and, on_ok_weaker}
pub use Rattle.std.specs.Prelude.{Contains, IfSome, filter, is_none}
pub use Rattle.std.specs.declared.alloc.Global.{Global}
pub use Rattle.std.specs.declared.vec.Vec.{Vec}
pub use Rattle.indexmap.specs.IndexSet.{insert_all, insert_key}
pub use Rattle.sb_facts.proofs.CallerLemmas.{all_push, all_weaker, equal_itself, same_number, some-none}
pub use Rattle.sb_word.specs.Words.{are_characters}
pub use Rattle.sb_lit.proofs.CallerLemmas.{all_among, is_same_literal-of, is_same_literal-true, literal_of_parts}
pub use Rattle.sb_lit.specs.Clauses.{is_among, is_false_clause, is_false_under, is_same_literal, is_true_under, negation}
pub use Rattle.sb_lit.specs.Kept.{stays_up_to}
pub use Rattle.sb_trail.specs.Assignments.{entry_of}
pub use Rattle.sb_lang.specs.Language.{language}
pub use Rattle.sb_meaning.specs.Sorts.{is_same_sort}
pub use Rattle.sb_meaning.specs.Terms.{Terms, apply, constant, integer, no_terms, numeral, parameter, reglan, with_term, word}
pub use Rattle.sb_meaning.specs.Values.{Int, Text, Truth, Value, default_of, is_of, value_in}
pub use Rattle.sb_script.specs.Brought.{is_brought_sort, is_structure}
pub use Rattle.sb_script.specs.Fragment.{fits}
pub use Rattle.sb_script.specs.Models.{occurs, occurs_in_some}
pub use Rattle.sb_script.specs.Pieces.{Piece, word_piece}
pub use Rattle.sb_script.specs.Scopes.{Naming}
pub use Rattle.sb_script.specs.State.{live_terms, terms_in}
pub use Rattle.sb_script.specs.Verdicts.{each_once, is_same_assumption}
pub use Rattle.sb_script.specs.WellSorted.{is_well_sorted}
pub use Rattle.sb_rulebook.specs.Accepted.{at_level, live_by_level, term_of}
pub use Rattle.sb_rulebook.specs.AtomRules.{are_known, has_its_parts}
pub use Rattle.sb_rulebook.specs.Atoms.{le_atom, sum_atom}
pub use Rattle.sb_rulebook.specs.Follows.{follows}
pub use Rattle.sb_rulebook.specs.Gates.{gate}
pub use Rattle.sb_rulebook.specs.Kept.{count_again}
pub use Rattle.sb_rulebook.specs.Lines.{Line}
pub use Rattle.sb_rulebook.specs.Refusals.{Refusal}
pub use Rattle.sb_rulebook.specs.Verdicts.{denies, is_same_truth}
pub use Rattle.sb_rulebook.specs.TranslationLaws.{FittingIsTranslated, TranslationStays}
pub use Rattle.sb_sound.proofs.CallerLemmas.{Contains-slice_get, IsTruthAt, all_in_front, any_holds-front, filter_twice, kept_at-up_to, length-truths_of, literal_holds-take, names_from, truth_at_place, truths_from-append, truths_from-front}
pub use Rattle.sb_sound.specs.ScriptLaws.{assumption_fits}
pub use Rattle.sb_sound.specs.GateLaws.{GatesHold, all_hold, are_alike, is_as_it_says}
pub use Rattle.sb_sound.specs.SoundLaws.{CountedAgainStaysSound, FollowsByRule, IsSound, LevelsHold, LineStaysSound, PlacesHold, StandsAt}
pub use Rattle.sb_sound.specs.Tables.{names_below}
pub use Rattle.sb_sound.specs.TranslationLaws.{TranslationHolds}
pub use Rattle.sb_term.specs.Numbered.{term_at}
pub use Rattle.sb_regex.specs.Numbered.{regex_at}
pub use Rattle.sb_clauses.specs.Propagation.{HasNoneFalse, State, has_room_for}
pub use Rattle.sb_sorts.specs.Scopes.{are_sorted, has_sort, names_in}
pub use Rattle.sb_store.proofs.CallerLemmas.{grows_both, grows_same, regexes_both, regexes_same, walked}
pub use Rattle.sb_analyze.specs.Cores.{IsKeptCore}
pub use Rattle.sb_search.specs.Following.{place_holds}
pub use Rattle.sb_search.specs.Found.{GrowsTo, IsFound, are_true, has_value}
pub use Rattle.sb_search.specs.Writing.{Written, written}
pub use Rattle.sb_search.specs.declared.choices.Choices.{Choices}
pub use Rattle.sb_search.specs.declared.found.Found.{Found}
pub use Rattle.sb_atoms.proofs.CallerLemmas.{all_say, atoms_kept, atoms_more, earlier_table}
pub use Rattle.sb_atoms.specs.GateClauses.{atom_at, gate_clauses}
pub use Rattle.sb_atoms.specs.Numbered.{IsWith, over}
pub use Rattle.sb_atoms.specs.Translated.{AreDefined, HasNoLiteral, brought_translation, has_declared, have_declared}
pub use Rattle.sb_stack.proofs.CallerLemmas.{live_laid, same_sort, value_there}
pub use Rattle.sb_stack.specs.Speaking.{is_one_of, speak_of, speaks_of}
pub use Rattle.sb_stack.specs.Stacked.{HasNumberBelow, assertion_in, assertion_of, first_level, front_names, levels_above, value_at}
pub use Rattle.sb_trace.proofs.CallerLemmas.{counts_none, counts_on, puts_both, tracks_grow}
pub use Rattle.sb_trace.specs.Putting.{Puts, follow_all}
pub use Rattle.sb_trace.specs.Tracking.{Traced, Tracks}
pub use Rattle.sb_clash.specs.Literals.{number_in}
pub use Rattle.sb_theory.proofs.CallerLemmas.{all_known}
pub use Rattle.sb_theory.specs.Laws.{are_known_in, tracks_kept}
pub use Rattle.sb_theory.specs.Memberships.{constant_of, fits_subject, subject_of}
pub use Rattle.sb_theory.specs.Wanted.{IsTaught, is_of_wanted, wanted_of}
pub use Rattle.sb_theory.specs.declared.strings.Strings.{Strings}
pub use Rattle.sb_refute.proofs.CallerLemmas.{cons-cases, gates-stay, each-part, each-reserved, kept-cases, kept-stays, leads-none, not-in-nil, of-gate, room-for-each, stand-atoms, stand-traced, structure-is, uncounted-both}
pub use Rattle.sb_refute.specs.Assuming.{Says}
pub use Rattle.sb_refute.specs.Backing.{unit_at}
pub use Rattle.sb_solve.specs.Answered.{AreLiterals, IsAnswered, IsLiteral, term_onto, terms_at}
pub use Rattle.sb_solve.specs.Assumed.{AreSaid, IsRefuting, denied_in, make_true}
pub use Rattle.sb_solve.specs.Decided.{AreKept, IsDecided, IsGiven, IsKept}
pub use Rattle.sb_solve.specs.Entailed.{AreEntailed, AssertedIsEntailed, ContinuedAreEntailed, DroppedAreEntailed, EntailedInLarger, EntailedOverMore, GateIsEntailed, NoneAreEntailed, RefutedAreContradicted, RefutedAreFalse, SearchedAreEntailed, with_clause}
pub use Rattle.sb_solve.specs.Denying.{AreDenials, are_equal, claim_of}
pub use Rattle.sb_solve.specs.Gathering.{Closes, Follow}
pub use Rattle.sb_solve.specs.Modelled.{HasLive}
pub use Rattle.sb_solve.specs.Searched.{Answers, AreAmong, AreTaken, IsDone, IsSearched, IsValuedBy, Runs, backing_in}
pub use Rattle.sb_solve.specs.Settling.{AllSettle, Goes, HasEnds, IsCutAt, Settles, StepsOnce}
pub use Rattle.sb_solve.specs.Solved.{AreOfLevels, AreTrueAt, AreTrueUnder, IsSolved, level_at}
pub use Rattle.sb_solve.specs.Stating.{AllStated, AreStated, Assumes, IsAssertionAt, IsStated, States}
pub use Rattle.sb_solve.specs.Truth.{IsTrue}
pub use Rattle.sb_solve.specs.Values.{are_words_there, is_constant, is_true, is_word_there, makes_true, truth_by, truth_in, word_in, word_or_empty, word_there}
pub use Rattle.sb_solve.specs.Wanted.{AreLeast, AreWanted, atoms_of, is_closed, is_in, is_simple, is_simple_at, parts_at, parts_of}
pub use Rattle.sb_solve.specs.Words.{All, AllKept, AreDistinct, AreTerms, Asked, Asserted, Assertion, Assigned, Assumption, Atom, AtomOver, Backing, Backs, CountsTapeFault, EmptyClause, Evidences, EvidencesUncounted, Extends, FollowsByLevel, Grows, HasGates, HasSorts, HasWords, HaveAtoms, HaveRegexesBelow, IsConsistent, IsCounted, IsDistinct, IsStatement, IsStoreOf, IsValid, Kept, KeptClause, KeptStay, Lit, Memo, Names, Regex, RegexesGrow, Sort, Spending, Stacked, Stand, Store, TableGrows, Term, Valuation, a_mark, and_atom, are_atoms, are_declared, asked_in, asserted, asserted_at, atoms_in, bool_atom, boolean, clause_holds, constant_piece, fits_sorts, have_levels, held, holds, iff_atom, in_atom, is_atom, is_decided, is_declared, is_declared_constant, is_sorted, is_table, is_true_by, kept_at, kept_up_to, list_all, list_any, literal_holds, live, live_constants, of_sign, sort_in, state_of, text, translation, truths_of, value_of, values_at, wanted_on, word_at}
pub use Rattle.sb_solve.specs.declared.check.Solved.{Solved}
pub use Rattle.sb_solve.specs.declared.denying.Claim.{Claim}
pub use Rattle.sb_solve.specs.declared.searching.Tables.{Tables}
