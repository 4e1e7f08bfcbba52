-- The words of the crates below, and of this one, that its proofs speak of.
pub use Rattle.std.proofs.Common.{Bool, Err, IfSome, List, None, Ok, Option, Result, Some, [], ap, append_assoc, ap₂, arith, cond, drop, false, get_or, if◌then◌else◌, inl, inr, is_some, length, map, nat_le, nat_lt, not, option_map, refl, replicate, slice_get, subst, suc, sym, take, true, zero, ℕ, ◌&&◌, ◌++◌, ◌+◌, ◌-◌, ◌<◌, ◌==◌, ◌^◌, ◌||◌, ◌∙◌, ◌∷◌, ◌≡◌, ◌⊎◌}
pub use Rattle.std.proofs.Math.Seq.{take-append_seam}
pub use Rattle.std.proofs.lemmas.Bool.{and_from, and_parts, eq-eqb, eqb-true, false_from_ne_true, false≢true, lt-ltb, or_cases, or_left, or_parts, or_right, true≢false}
pub use Rattle.std.proofs.lemmas.Bool.Decides.{nat_tests}
pub use Rattle.std.proofs.lemmas.Grind.{flat_map-append}
pub use Rattle.std.proofs.lemmas.List.{append-nil, length-map, map-append, take_all, take_more}
pub use Rattle.std.proofs.lemmas.List.Elements.{All-head, All-tail, Contains-get_or}
pub use Rattle.std.proofs.lemmas.List.Folds.{list_all-append, list_all-map, list_any-append}
pub use Rattle.std.proofs.lemmas.Option.{get_or_from_slice_get, none-some, same_Some, slice_get_within}
pub use Rattle.std.proofs.lemmas.Result.{IfOk-from_err, IfOk-weaker, err_from_is_err_and, on_ok_weaker}
pub use Rattle.std.specs.List.{All, list_all, list_any}
pub use Rattle.std.specs.Prelude.{Contains, filter}
pub use Rattle.std.specs.declared.alloc.Global.{Global}
pub use Rattle.std.specs.declared.vec.Vec.{Vec}
pub use Rattle.sb_word.specs.Words.{IsWord, are_characters, is_character}
pub use Rattle.sb_lit.specs.Budgets.{Spending}
pub use Rattle.sb_lit.specs.Clauses.{are_ascending}
pub use Rattle.sb_lit.specs.Hints.{Unlearned, is_repeated, learned}
pub use Rattle.sb_lit.specs.Kept.{Kept, KeptClause, kept_at}
pub use Rattle.sb_lit.specs.declared.clause.ClauseId.{ClauseId}
pub use Rattle.sb_lit.specs.declared.clause.Lit.{Lit}
pub use Rattle.sb_reader.specs.Entries.{Entry}
pub use Rattle.sb_lang.specs.Language.{language}
pub use Rattle.sb_lang.specs.Normal.{normal}
pub use Rattle.sb_lang.specs.NormalForm.{is_normal}
pub use Rattle.sb_lang.specs.NormalLaws.{NormalHasTermsWords}
pub use Rattle.sb_lang.specs.Order.{regex_eq}
pub use Rattle.sb_lang.specs.RegLan.{RegLan}
pub use Rattle.sb_lang.specs.Regex.{Regex}
pub use Rattle.sb_meaning.specs.Terms.{Sort, Term, Terms, apply, boolean, constant, integer, no_terms, numeral, parameter, reglan, text, with_term, word}
pub use Rattle.sb_meaning.specs.Truth.{all_hold, applied, holds, meaning_of, meanings_of, means_reglan}
pub use Rattle.sb_meaning.specs.Values.{Text, Valuation, default_of, is_of, value_in}
pub use Rattle.sb_script.proofs.CallerLemmas.{asked_regular, entry_keeps}
pub use Rattle.sb_script.specs.Brought.{is_regex, is_structure, proofs}
pub use Rattle.sb_script.specs.Fragment.{are_in_fragment, are_inside, in_fragment, is_decided, is_inside}
pub use Rattle.sb_script.specs.Models.{IsGiven, are_defaults, is_default, is_default_or_occurs, occurs}
pub use Rattle.sb_script.specs.Names.{Name}
pub use Rattle.sb_script.specs.Pieces.{are_ground, is_ground}
pub use Rattle.sb_script.specs.Replies.{step_of}
pub use Rattle.sb_script.specs.Scopes.{Constant, Named, Naming, a_constant, a_definition, a_marked_name}
pub use Rattle.sb_script.specs.Sizes.{has_short_words, is_regular, size_of}
pub use Rattle.sb_script.specs.State.{Assertion, Assumption, Level, State, a_mark, asserted, assumed, constants_of, empty_level, fits, in_level, in_level_of_names, is_model, live, live_terms, over_levels, popped, terms_in, with_name}
pub use Rattle.sb_script.specs.Steps.{above, all, answers, checks, exits, leaves, line}
pub use Rattle.sb_script.specs.Verdicts.{IsCore, IsVerdict, Verdict, each_once, is_unsat}
pub use Rattle.sb_rulebook.specs.Accepted.{asked_in, at_level, live_by_level, term_of}
pub use Rattle.sb_rulebook.specs.AtomRules.{are_known, is_known}
pub use Rattle.sb_rulebook.specs.Atoms.{Atom, AtomOver, is_same_atom, is_well_formed}
pub use Rattle.sb_rulebook.specs.Brought.{has_rests, is_brought, newest_format}
pub use Rattle.sb_rulebook.specs.ClauseRules.{follows_assertion, follows_learned, follows_rule, holds_by, is_counted, is_translation}
pub use Rattle.sb_rulebook.specs.Expansions.{is_expansion}
pub use Rattle.sb_rulebook.specs.Follows.{by_rule, follows, not_brought}
pub use Rattle.sb_rulebook.specs.Judging.{Progress, asks, at_check, at_rest, goes_through, meets, met, take_line, takes_at_check, takes_kept, takes_verdict}
pub use Rattle.sb_rulebook.specs.Kept.{AllKept, Asked, all_dropped, count_again, counting, dropped_above, most_counted, nothing_kept, rests_of_any, targets_in, with_clause, with_dead, with_expansion, with_regex}
pub use Rattle.sb_rulebook.specs.LineLaws.{are_small, bytes_of, has_text, is_small, is_small_value, said_has_text}
pub use Rattle.sb_rulebook.specs.Lines.{Class, Line, Node, Rule, Said, assertion_line, atom_line, dead_line, end_line, expansion_line, header_line, learned_line, regex_line, rule_line, said_sat, said_unknown, said_unsat, said_unsupported, text_of, verdict_line}
pub use Rattle.sb_rulebook.specs.Parts.{together}
pub use Rattle.sb_rulebook.specs.Refusals.{Refusal, not_normal, repeated, rule_broken, unknown_id, wrong_target, wrong_verdict}
pub use Rattle.sb_rulebook.specs.Verdicts.{Question, are_live, assertion_holds, assumption_holds, denied_by, is_model_of, is_same_truth, refusal_of, refutes, unless_wrong, valued}
pub use Rattle.sb_sound.proofs.CallerLemmas.{all_contained, all_from, any_of, assumed_holds, hold_both}
pub use Rattle.sb_sound.specs.Certified.{SaysVerdict, last_lines}
pub use Rattle.sb_sound.specs.ScriptLaws.{ClauseRefutes, EntriesLeadOn, IsFit, LeadsOn, assumption_fits}
pub use Rattle.sb_sound.specs.SoundLaws.{AreTerms, Continues, CountedAgainStaysSound, FollowsByRule, LineStaysSound}
pub use Rattle.sb_proof.specs.Tapes.{with_bytes}
pub use Rattle.sb_term.specs.declared.term.Serial.{Serial}
pub use Rattle.sb_fragment.proofs.CallerLemmas.{all_at}
pub use Rattle.sb_fragment.specs.Rules.{FragmentIsOfEach}
pub use Rattle.sb_atoms.proofs.CallerLemmas.{no_atoms, regexes_kept}
pub use Rattle.sb_atoms.specs.Numbered.{HaveRegexesBelow, atoms_in}
pub use Rattle.sb_stack.proofs.CallerLemmas.{assumption_there, live_laid, value_there}
pub use Rattle.sb_stack.specs.Speaking.{are_assumed, is_one_of, speaks_of}
pub use Rattle.sb_stack.specs.Stacked.{Stacked, are_words, assertion_in, live_constants, live_in, question_of, state_of, value_at, values_at, without_words}
pub use Rattle.sb_stack.specs.Steps.{IsStep, found, leaving_in, verdict_in}
pub use Rattle.sb_stack.specs.declared.stack.Step.{Step}
pub use Rattle.sb_store.proofs.CallerLemmas.{more_same}
pub use Rattle.sb_store.specs.Stores.{KnowsMore}
pub use Rattle.sb_store.specs.declared.store.Store.{Store}
pub use Rattle.sb_trace.proofs.CallerLemmas.{counts_none, counts_on, puts_none}
pub use Rattle.sb_trace.specs.Putting.{CountsTapeFault, IsCounted, Puts, follow_all}
pub use Rattle.sb_decide.proofs.CallerLemmas.{IsDemanding, a_denial, an_asking, asked_alone, decided_kind, demanded_holds, demanded_looks, demanded_speaks, denied_fits}
pub use Rattle.sb_decide.specs.Conjoined.{is_listed}
pub use Rattle.sb_decide.specs.Demands.{demanded}
pub use Rattle.sb_decide.specs.Knowing.{Knows}
pub use Rattle.sb_decide.specs.Places.{AreRegexesAt, IsPlaceOf, IsRegexAt, asks_of}
pub use Rattle.sb_decide.specs.Ready.{IsAbout, IsClash, IsClosed, IsDecided, IsQuestion, IsReady, IsSpoken, OccursNowhereAt}
pub use Rattle.sb_decide.specs.declared.decide.Decided.{Decided}
pub use Rattle.sb_decide.specs.declared.decide.Decider.{Decider}
pub use Rattle.sb_refute.proofs.CallerLemmas.{backs-grown}
pub use Rattle.sb_refute.specs.Assuming.{literals_in}
pub use Rattle.sb_refute.specs.Backing.{AreUpTo, Backing, Backs, Evidences, asserted_at, empty_at, left_above}
pub use Rattle.sb_refute.specs.declared.evidence.Asserted.{Asserted}
pub use Rattle.sb_refute.specs.declared.evidence.EmptyClause.{EmptyClause}
pub use Rattle.sb_solve.proofs.CallerLemmas.{backs-again, true-behind}
pub use Rattle.sb_solve.specs.Assumed.{IsRefuting, denied_in, make_true, refutes_in}
pub use Rattle.sb_solve.specs.Words.{are_declared}
pub use Rattle.sb_solve.specs.Solved.{AreOfLevels, AreTrueAt, AreTrueUnder, IsSolved, IsValued, OccursAt}
pub use Rattle.sb_solve.specs.Truth.{IsTrue}
pub use Rattle.sb_solve.specs.Values.{are_words_there, is_word_there, truth_in, word_in, word_or_empty, word_there}
pub use Rattle.sb_solve.specs.declared.check.Solved.{Solved}
pub use Rattle.sb_prover.specs.Checking.{AreAsked, AreDenied, AreTruthsAmong, AreTruthsOf, AreValues, Finds, IsAsked, IsCompleted, IsNumbered, IsReadyThen, IsSolution, IsSpent, SaysTrue, is_assumed, said_by, verdict_of}
pub use Rattle.sb_prover.specs.Proving.{AreLow, EntriesMoveLive, EntriesStayFit, GoesDown, HasSpent, HaveLevels, IsAbreast, IsProved, LeadsTo, LevelsStay, MovesLive, Proving, leaving, level_at}
pub use Rattle.sb_prover.specs.Saying.{IsSaid, Tells, first_lines, said_value}
pub use Rattle.sb_prover.specs.declared.checking.Solution.{Solution}
