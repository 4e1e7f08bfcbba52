-- The words of the crates below, and of this one, that its proofs speak of.
pub use Rattle.std.proofs.Common.{Bool, Err, List, None, Ok, Option, Result, Some, [], ap, append_assoc, arith, drop, eqb, false, get_or, if◌then◌else◌, inl, inr, is_none, leb, length, ltb, map, max, not, refl, subst, suc, sym, take, true, unwrap_or, zero, ℕ, ◌&&◌, ◌++◌, ◌+◌, ◌-◌, ◌<◌, ◌||◌, ◌∙◌, ◌∷◌, ◌≡◌, ◌≤◌, ◌⊎◌}
pub use Rattle.std.proofs.Math.Bool.{not-not}
pub use Rattle.std.proofs.Math.Nat.{le-max_left, le-max_right}
pub use Rattle.std.proofs.lemmas.Bool.{and_from, and_parts, cases_Bool, cases_lt, eq-eqb, eqb-true, false_from_ne_true, false≢true, le-leb, leb-false, leb-true, lt-leb, lt-ltb, ltb-false, ltb-true, ne_eqb, not-true, or_cases, or_left, or_right}
pub use Rattle.std.proofs.lemmas.Grind.{common_steps, elements}
pub use Rattle.std.proofs.lemmas.List.{append-nil, drop_all, drop_more, length-append, take_all, take_more}
pub use Rattle.std.proofs.lemmas.List.Elements.{filter-append}
pub use Rattle.std.proofs.lemmas.Option.{get_or_from_slice_get, same_Some, slice_get-get_or, slice_get_within}
pub use Rattle.std.proofs.lemmas.Result.{IfOk-from_err, IfOk-weaker, err_from_is_err_and, on_ok_weaker}
pub use Rattle.std.specs.List.{list_all, slice_get}
pub use Rattle.std.specs.Option.{is_some}
pub use Rattle.std.specs.Result.{IsErrAnd}
pub use Rattle.sb_facts.proofs.CallerLemmas.{all_push, all_weaker, told_err, told_ok}
pub use Rattle.sb_lit.proofs.CallerLemmas.{all_among, among_negated, among_push, among_push_same, is_same_literal-of, is_same_literal-true, open-not_true}
pub use Rattle.sb_lit.specs.Budgets.{Spending}
pub use Rattle.sb_lit.specs.Clauses.{are_among, is_among, is_false_clause, is_false_under, is_open_under, is_same_literal, is_true_under, leaves_only, negation, value_under}
pub use Rattle.sb_lit.specs.Kept.{Kept, KeptClause, kept_at, kept_up_to, stays_up_to}
pub use Rattle.sb_lit.specs.declared.clause.ClauseId.{ClauseId}
pub use Rattle.sb_lit.specs.declared.clause.Lit.{Lit}
pub use Rattle.sb_trail.proofs.CallerLemmas.{cond_none, level_after-push, up_to-all, up_to-up_to}
pub use Rattle.sb_trail.specs.Assignments.{AreDistinct, AreLevelled, Assignments, IsConsistent, IsTrail, current_level, entry_of, held, level_after, level_behind, reason_of, up_to, value_of}
pub use Rattle.sb_trail.specs.declared.assigned.Assigned.{Assigned}
pub use Rattle.sb_script.specs.Steps.{line}
pub use Rattle.sb_rulebook.specs.LineLaws.{are_small, has_text, is_small_literal}
pub use Rattle.sb_rulebook.specs.Lines.{learned_line, text_of}
pub use Rattle.sb_sound.specs.HintLaws.{LearnedHasLevels, LearnedHolds}
pub use Rattle.sb_proof.specs.Tapes.{with_bytes}
pub use Rattle.sb_proof.specs.declared.tape.TapeFault.{TapeFault}
pub use Rattle.sb_clauses.specs.Propagation.{AreForced, GrowsBy, IsSettled, State, are_reserved, has_room_for, is_reserved}
pub use Rattle.sb_analyze.proofs.CallerLemmas.{below_decided, below_grown, below_learned, below_up_to, decided_false, is_highest, level_forced, level_up_to, not_false_with, reasoned_decided, reasoned_grown, reasoned_more, reasoned_up_to, settled_more, teaches_below, true_up_to_low}
pub use Rattle.sb_analyze.specs.Cores.{AreAssumed, IsCore, IsFinal, IsKeptCore, are_negated}
pub use Rattle.sb_analyze.specs.Learning.{IsAsserting, IsLesson, IsSettledBelow, is_named, literals_at}
pub use Rattle.sb_analyze.specs.Reasons.{AreReasoned, level_in}
pub use Rattle.sb_analyze.specs.declared.cores.Core.{Core}
pub use Rattle.sb_analyze.specs.declared.learned.Learned.{Learned}
pub use Rattle.sb_search.specs.Asking.{AreAllKnown, AreKnown, CountsFaults, HasKnownAtoms, IsFair, decided, with_lemma}
pub use Rattle.sb_search.specs.Following.{AreRefuted, Follows, FollowsByLevel, all_hold, clause_holds, literal_holds, place_holds}
pub use Rattle.sb_search.specs.Found.{GrowsTo, IsFound, are_true, has_value}
pub use Rattle.sb_search.specs.Searching.{IsDue, IsHighest, IsKept, IsLowest, IsNext, IsNextWanted, IsSearching, IsSecond, Widens, false_from, have_places, higher, is_but}
pub use Rattle.sb_search.specs.Turning.{Entails, GoesBack, GoesOn, HasLaws, IsAnswered, IsBetter, IsNoWorse, IsReady, IsSpentOn, IsSpentOr, IsTurned, IsWritten, Keeps, LessonsFollow, Moment, Refutes, Stays, Steps, divides, learns, left_at, measure_at, moment, nothing, proof_at}
pub use Rattle.sb_search.specs.Writing.{Written, kept_behind, true_or_false, written}
pub use Rattle.sb_search.specs.declared.found.Found.{Found}
pub use Rattle.sb_search.specs.declared.stage.Next.{Next}
pub use Rattle.sb_search.specs.declared.stage.Stage.{Stage}
pub use Rattle.sb_search.specs.declared.theory.Checked.{Checked}
pub use Rattle.sb_search.specs.declared.theory.Theory.{Ghosts}
pub use Rattle.sb_search.specs.declared.turn.Turn.{Turn}
