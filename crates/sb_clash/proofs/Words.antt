-- The words of the crates below, and of this one, that its proofs speak of.
pub use Rattle.std.proofs.Common.{Bool, IfOk, List, None, Option, Some, [], ap, ap₂, arith, drop, false, get_or, if◌then◌else◌, inl, inr, length, map, not, option_map, refl, slice_get, subst, suc, sym, take, true, zero, ℕ, ◌&&◌, ◌++◌, ◌+◌, ◌-◌, ◌<◌, ◌∙◌, ◌∷◌, ◌≡◌, ◌≤◌}
pub use Rattle.std.proofs.Math.Bool.{or-false}
pub use Rattle.std.proofs.lemmas.Bool.{false_from_ne_true, false≢true, true≢false}
pub use Rattle.std.proofs.lemmas.List.{length-map, map-append, take_all, take_more}
pub use Rattle.std.proofs.lemmas.List.Edits.{length-remove}
pub use Rattle.std.proofs.lemmas.List.Elements.{All-append, All-cons, All-drop, All-head, All-map, All-nil, All-push, All-tail, All-take}
pub use Rattle.std.proofs.lemmas.List.Folds.{list_all-map}
pub use Rattle.std.proofs.lemmas.List.Sorted.{All-permutation, IsPermutation-map, IsPermutation-sym}
pub use Rattle.std.proofs.lemmas.List.Sums.{AllPass-from_list_all, get_or-le-sum_by, list_all-from_AllPass, sum_by-cons, sum_by-remove}
pub use Rattle.std.proofs.lemmas.Option.{get_or_from_slice_get, slice_get-map, slice_get_within}
pub use Rattle.std.proofs.lemmas.Result.{IfOk-from_err, IfOk-weaker, err_from_is_err_and}
pub use Rattle.std.specs.List.{count_by, list_all, remove}
pub use Rattle.std.specs.List.Sorted.{IsPermutation, IsSorted}
pub use Rattle.std.specs.Option.{IfSome}
pub use Rattle.sb_facts.proofs.CallerLemmas.{mark_there, told_err, told_ok}
pub use Rattle.sb_lit.proofs.CallerLemmas.{among_negated, negation_twice}
pub use Rattle.sb_lit.specs.Budgets.{Spending}
pub use Rattle.sb_lit.specs.Clauses.{literal_order}
pub use Rattle.sb_lit.specs.Kept.{Kept}
pub use Rattle.sb_lang.specs.ConstructorLaws.{MkandKeepsLanguage}
pub use Rattle.sb_lang.specs.Constructors.{mkand, mknot}
unfoldable pub use Rattle.sb_lang.specs.Language.{language}
pub use Rattle.sb_lang.specs.Least.{IsShortestLeast}
pub use Rattle.sb_script.specs.Steps.{line}
pub use Rattle.sb_rulebook.specs.Atoms.{Atom}
pub use Rattle.sb_rulebook.specs.Kept.{AllKept, Asked, with_clause}
pub use Rattle.sb_rulebook.specs.LineLaws.{is_small_literal}
pub use Rattle.sb_rulebook.specs.Lines.{empty, rule_line, text_of}
pub use Rattle.sb_sound.proofs.CallerLemmas.{ascend_form}
pub use Rattle.sb_sound.specs.ClauseLaws.{AreDefined, RuleLinesAreExact}
pub use Rattle.sb_sound.specs.MembershipLaws.{AreDeniedIn, IsDeniedIn}
pub use Rattle.sb_proof.specs.Tapes.{with_bytes}
pub use Rattle.sb_regex.proofs.CallerLemmas.{at_kept, ats_kept, extends_more, extends_same, names_at, names_below, names_from, numbers_kept}
pub use Rattle.sb_regex.specs.Numbered.{AllNumbers, Names, regexes_at}
pub use Rattle.sb_deriv.specs.Faithful.{Memo}
pub use Rattle.sb_analyze.proofs.CallerLemmas.{ascending_from_sort}
pub use Rattle.sb_atoms.proofs.CallerLemmas.{atoms_kept, regexes_kept}
pub use Rattle.sb_atoms.specs.Numbered.{over}
pub use Rattle.sb_graph.specs.Findings.{is_marked}
pub use Rattle.sb_graph.specs.Laws.{GraphStays}
pub use Rattle.sb_graph.specs.Witness.{IsFinding}
pub use Rattle.sb_trace.proofs.CallerLemmas.{counts_none, counts_on, number-there, puts_both, puts_none, puts_one, reached_grows, spent_both, spent_none, spent_one, spent_same, stays_same, tracks_grow}
pub use Rattle.sb_trace.specs.Putting.{CountsTapeFault, IsCounted}
pub use Rattle.sb_trace.specs.Reaching.{ExpandsReached, IsReached}
pub use Rattle.sb_trace.specs.Tracking.{IsExploring, Traces, is_expanded_in}
pub use Rattle.sb_trace.specs.declared.trace.Explore.{Explore}
pub use Rattle.sb_clash.specs.Asked.{CanBeAsked, Explores, IsCore, LeavesOut}
pub use Rattle.sb_clash.specs.Denials.{CanBeDenied, Denying, ExpandsDenied, IsDenial, IsOfDenial, Sofar, Ticks, denied_by, sofar, with_denial}
pub use Rattle.sb_clash.specs.Literals.{AreAbout, AreClashing, AreFewer, AreSingle, IsAbout, asked_by, asked_by_all, number_in}
pub use Rattle.sb_clash.specs.Words.{Ascend, AtomOver, Extends, Findings, HasNoSubset, HaveRegexesBelow, IsGraph, Lit, Regex, Traced, Tracks, atoms_in, bool_atom, is_dead_in, is_same_literal, negation, regex_at}
