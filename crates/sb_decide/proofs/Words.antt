-- The words of the crates below, and of this one, that its proofs speak of.
pub use Rattle.std.proofs.Common.{Bool, IfSome, List, None, Option, Some, [], ap, append-nil, append_assoc, ap₂, arith, cond, drop, false, get_or, if◌then◌else◌, inl, inr, is_some, length, length-append, map, nat_eq, nat_le, nat_lt, not, option_map, refl, set, slice_get, subst, subst₂, suc, sym, take, true, unwrap_or, vec_len, zero, ℕ, ◌&&◌, ◌++◌, ◌+◌, ◌-◌, ◌<◌, ◌==◌, ◌||◌, ◌∙◌, ◌∷◌, ◌≡◌, ◌≢◌, ◌≤◌, ◌⊎◌}
pub use Rattle.std.proofs.Math.Bool.{and-false, and-true, and_assoc, and_comm, or-false, or_assoc, or_comm}
pub use Rattle.std.proofs.Math.Seq.{take-append_seam}
pub use Rattle.std.proofs.lemmas.Bool.{and_from, and_parts, eq-eqb, eqb-false, eqb-true, false_from_ne_true, false≢true, leb-true, lt-ltb, ltb-true, ne_eqb, not-false, or_cases, or_left, or_parts, or_right, true_from_ne_false}
pub use Rattle.std.proofs.lemmas.Bool.Decides.{nat_tests}
pub use Rattle.std.proofs.lemmas.List.{drop-map, drop_all, drop_more, get_or-set_other, get_or-set_same, get_or-take, get_or_append_left, get_or_default, get_or_read, length-map, length-set, length-take-le, map-append, map_more, map_push, nil_from_length, take-append-drop, take-append-le, take_all, take_more, take_rest, with_items_is}
pub use Rattle.std.proofs.lemmas.List.Elements.{All-append, All-cons, All-contains, All-drop, All-head, All-nil, All-pop, All-push, All-same, All-tail, All-take, Contains-append_cases, Contains-append_left, Contains-append_right, Contains-get_or}
pub use Rattle.std.proofs.lemmas.List.Folds.{list_all-append, list_all-map, list_any-append, list_any_at}
pub use Rattle.std.proofs.lemmas.List.Sorted.{Contains-permutation, IsPermutation-sym, length_permutation}
pub use Rattle.std.proofs.lemmas.List.Sums.{AllPass-from_list_all, list_all-from_AllPass}
pub use Rattle.std.proofs.lemmas.Option.{get_or_from_slice_get, none-some, same_Some, slice_get-get_or, slice_get-map, slice_get_within}
pub use Rattle.std.proofs.lemmas.Result.{IfOk-from_err}
pub use Rattle.std.specs.Cmp.{both_ways}
pub use Rattle.std.specs.Cmp.Lexicographic.{slice_cmp}
pub use Rattle.std.specs.List.{All, Contains, list_all, list_any}
pub use Rattle.std.specs.List.Sorted.{IsPermutation}
pub use Rattle.std.specs.Ordering.{nat_cmp}
pub use Rattle.std.specs.Vec.{with_items}
pub use Rattle.std.specs.declared.alloc.Global.{Global}
pub use Rattle.std.specs.declared.vec.Vec.{Vec}
pub use Rattle.sb_facts.proofs.CallerLemmas.{all_weaker, equal_turned, number_more}
pub use Rattle.sb_word.specs.Words.{IsWord, are_characters}
pub use Rattle.sb_lang.specs.ConstructorLaws.{IntersectionIsOfEach, MkandKeepsLanguage}
pub use Rattle.sb_lang.specs.Constructors.{mkand, mknot}
pub use Rattle.sb_lang.specs.Language.{language}
pub use Rattle.sb_lang.specs.Languages.{Language}
pub use Rattle.sb_lang.specs.Least.{HasNoWord, IsShortestLeast}
unfoldable pub use Rattle.sb_lang.specs.Membership.{in_re}
unfoldable pub use Rattle.sb_lang.specs.Normal.{normal}
pub use Rattle.sb_lang.specs.NormalLaws.{NormalHasTermsWords}
pub use Rattle.sb_lang.specs.RegLan.{RegLan, re_comp}
pub use Rattle.sb_lang.specs.Regex.{Regex}
pub use Rattle.sb_meaning.specs.Sorts.{is_same_sort}
pub use Rattle.sb_meaning.specs.Terms.{Sort, Term, Terms, apply, boolean, constant, integer, no_terms, numeral, parameter, reglan, terms_of, text, with_term, word}
pub use Rattle.sb_meaning.specs.Truth.{Meaning, all_hold, all_true, applied, holds, meaning_of, means_number, means_reglan, means_truth, means_word, truth_in}
pub use Rattle.sb_meaning.specs.Values.{Int, Text, Truth, Valuation, Value, is_of, value_in}
pub use Rattle.sb_script.proofs.CallerLemmas.{IsAsking, a_membership, a_word_behind, a_word_in_front, asked_holds, asked_looks, asked_occurs, asked_regular}
pub use Rattle.sb_script.specs.Brought.{are_regexes, are_texts, asked, is_regex, is_structure, is_text, membership_of}
pub use Rattle.sb_script.specs.Fragment.{fits, is_decided}
pub use Rattle.sb_script.specs.Models.{AreShortestLeast, about, is_about, is_of_constant, is_plain, is_plain_assertion, is_plain_term, occurs, occurs_in_some, words_for}
pub use Rattle.sb_script.specs.Pieces.{are_ground, is_ground}
pub use Rattle.sb_script.specs.Scopes.{Constant}
pub use Rattle.sb_script.specs.Sizes.{is_regular}
pub use Rattle.sb_script.specs.State.{Assertion, Assumption, Satisfiable, State, a_mark, asserted, assumed, constants_of, live, live_terms, terms_in}
pub use Rattle.sb_script.specs.Verdicts.{IsVerdict, is_unsat}
pub use Rattle.sb_term.proofs.CallerLemmas.{top_falls}
pub use Rattle.sb_term.specs.Descending.{Puts, has, top}
pub use Rattle.sb_term.specs.Nodes.{node_term}
pub use Rattle.sb_term.specs.Numbered.{term_at, terms_at}
pub use Rattle.sb_term.specs.Serials.{all_below, has_serials_below, have_serials_below}
pub use Rattle.sb_term.specs.Symbols.{symbol_in}
pub use Rattle.sb_term.specs.declared.sort.Symbol.{Symbol}
pub use Rattle.sb_term.specs.declared.term.Serial.{Serial}
pub use Rattle.sb_regex.proofs.CallerLemmas.{at_kept, extends_more, extends_same, names_at, names_below, names_kept, number_kept, numbers_kept}
pub use Rattle.sb_regex.specs.Numbered.{AllNumbers, Extends, Names, regex_at, regexes_at}
pub use Rattle.sb_problem.specs.Known.{AreNormals}
pub use Rattle.sb_problem.specs.Laws.{NormalsStay}
pub use Rattle.sb_problem.specs.Normals.{IsNumberOf, IsRegexOf}
pub use Rattle.sb_problem.specs.Patterns.{pattern_in}
pub use Rattle.sb_problem.specs.declared.normals.Known.{Known}
pub use Rattle.sb_deriv.specs.Faithful.{KeepsEntries}
pub use Rattle.sb_plain.specs.Memory.{IsRight, Memory}
pub use Rattle.sb_fragment.proofs.CallerLemmas.{asked_structure, measures_kept}
pub use Rattle.sb_fragment.specs.Measures.{AreMeasures}
pub use Rattle.sb_fragment.specs.Rules.{FragmentIsOfEach}
pub use Rattle.sb_fragment.specs.Shapes.{parts_of}
pub use Rattle.sb_fragment.specs.declared.measure.Measure.{Measure}
pub use Rattle.sb_stack.proofs.CallerLemmas.{live_laid, same_sort, value_there}
pub use Rattle.sb_stack.specs.Speaking.{is_one_of, speak_of, speaks_of}
pub use Rattle.sb_stack.specs.Stacked.{HasNumberBelow, IsLonger, Stacked, are_words, assertion_in, assertion_of, live_constants, state_of, value_at, values_at, without_words}
pub use Rattle.sb_stack.specs.declared.stack.Mode.{Mode}
pub use Rattle.sb_graph.specs.Findings.{Findings, IsGraph, KeepsMarks}
pub use Rattle.sb_store.proofs.CallerLemmas.{grows_both, grows_same, regexes_both, regexes_same}
pub use Rattle.sb_store.specs.Stores.{ArenaGrows, Grows, IsStoreOf, RegexesGrow, RegexesGrowAlone}
pub use Rattle.sb_store.specs.declared.store.Store.{Store}
pub use Rattle.sb_decide.specs.Conjoined.{Conjoined, HasRoom, IsChangedAt, OthersSettled, RestSettled, all_known, blank, conjoined_at, is_known_of, is_listed, is_settled, known_within, with_place, without_last, without_place}
pub use Rattle.sb_decide.specs.Deciding.{AreFilled, IsSofar, asking, in_each, word_at, words_asked}
pub use Rattle.sb_decide.specs.Demands.{complement_of, demanded, expression_in, is_demand, negation_of}
pub use Rattle.sb_decide.specs.Knowing.{AreKept, IsLeastOf, IsTaken, Knows, places_of}
pub use Rattle.sb_decide.specs.Laws.{KnowsGrown, ReadyGrown}
pub use Rattle.sb_decide.specs.Members.{AreConjuncts, AreMembers, AreRooted, HasRegexBelow, HasSerialBelow, IsEmptyAt, IsMember, IsOther, IsRootOf, IsTakenAs, ids_in, other_places, places_in, root_at, words_in}
pub use Rattle.sb_decide.specs.Parting.{IsParted}
pub use Rattle.sb_decide.specs.Places.{AreRegexesAt, HasNoWordAt, IsPlaceOf, IsRegexAt, asks_of, is_member}
pub use Rattle.sb_decide.specs.Ready.{AreSpoken, IsAbout, IsClash, IsClosed, IsQuestion, IsReady, IsSpoken, OccursNowhereAt}
pub use Rattle.sb_decide.specs.Speaking.{AreHeard, Hears, Speaks, TakesApart, is_silent, passes, passes_at, passes_in, places_of_all}
pub use Rattle.sb_decide.specs.Taking.{AreFound, ArePut, Fit, HasAll, IsFoundAt, IsFoundOf, IsInEach, IsPutAt, IsTakenOver, IsTakingOver, Searches, StayKept, id_of, ids_at, other_dead, with_word, word_found, word_of}
pub use Rattle.sb_decide.specs.declared.conjuncts.Member.{Member}
pub use Rattle.sb_decide.specs.declared.decide.Decider.{Decider}
pub use Rattle.sb_decide.specs.declared.decide.Found.{Found}
pub use Rattle.sb_decide.specs.declared.demand.Demand.{Demand}
