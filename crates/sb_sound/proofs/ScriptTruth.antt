-- The verdicts of an accepted proof are true of the states and the assumptions of their checks.
use Rattle.std.proofs.Common.{◌≡◌, ℕ, Bool, true, List, [], ◌∷◌, ◌++◌, map, Option, Some, None, sym, subst, ◌∙◌}
use Rattle.std.specs.List.{list_all, list_any}
use Rattle.std.specs.Prelude.{slice_get}
use Rattle.std.proofs.lemmas.Bool.{and_parts, and_from, false≢true}
use Rattle.sb_reader.specs.Entries.{Entry}
use Rattle.sb_meaning.specs.Terms.{Term}
use Rattle.sb_meaning.specs.Values.{Value, Valuation}
use Rattle.sb_meaning.specs.Truth.{all_hold}
use Rattle.sb_script.specs.State as state
use Rattle.sb_script.specs.State.{State, Assumption, assumed, names_of, constants_of, live, live_terms, fits, Satisfiable}
use Rattle.sb_script.specs.Verdicts.{each_once}
use Rattle.sb_script.specs.Steps.{Step, answers, leaves, checks, exits, above, all}
use Rattle.sb_script.specs.Replies.{step_of}
use Rattle.sb_rulebook.specs.Atoms.{clause_holds}
use Rattle.sb_rulebook.specs.Lines.{Said, said_sat, said_unsat, said_unknown, said_unsupported}
use Rattle.sb_rulebook.specs.Reading.{LineText, texts_of}
use Rattle.sb_rulebook.specs.Kept.{AllKept, count_again, rests_of}
use Rattle.sb_rulebook.specs.Verdicts.{denies, denied_by}
use Rattle.sb_rulebook.specs.Judging.{Event, leaves_above, leaves_all, Progress, beginning, meets}
use Rattle.sb_rulebook.specs.Accepted.{asked_in, live_by_level, question_in, events_of, state_behind, events}
use Rattle.sb_sound.specs.Tables.{HasWords}
use Rattle.sb_sound.specs.TermLaws.{HasSorts}
use Rattle.sb_sound.specs.SoundLaws.{LevelsHold, AreContradicted, AreContradictedAt, IsUnsat, MeansSo}
use Rattle.sb_sound.specs.VerdictLaws.{IsModel}
use Rattle.sb_sound.specs.AcceptedLaws.{AllMeanSo, counted_among, AcceptedScriptMeansSo}
use Rattle.sb_sound.specs.TruthLaws.{terms_at, AreContradictory, IsTrueUnsat, IsTrueSat, IsTrueOf, AreTrueBehind, AreTrue, AcceptedScriptIsTrue}
use Rattle.sb_sound.specs.ScriptLaws.{assumption_fits, ClauseRefutes, IsFit}
use Rattle.sb_sound.proofs.ScriptHistory.{IsKept, names_fit, start_fits, entry_keeps}
use Rattle.sb_sound.proofs.FittingValues.{has_sorts, has_words}
use Rattle.sb_sound.proofs.AssumedTerms.{hold_both, given_hold, unless_mark, live_hold, asserted_hold, places_hold}
use Rattle.sb_sound.proofs.PassFacts.{all_filter, all_contained}
use Rattle.sb_sound.proofs.SomeFacts.{some_once, all_once}
use Rattle.sb_sound.proofs.VerdictFacts.{refuted}
use Rattle.sb_sound.proofs.NamedFacts.{named_false}

module _ (s : State) (fit : IsFit s) where
  sorts_of : (v : Valuation) → fits (constants_of s) v ≡ true → HasSorts v s.sorts
  sorts_of v fitting = has_sorts s.sorts (names_of s) v fit.1 (names_fit s.sorts s.first s.above fit.0) fitting

  -- where the live terms are true, all levels are
  levels_hold : (v : Valuation) → all_hold (live_terms s) v ≡ true → (level : ℕ)
      → LevelsHold v (live_by_level s.first s.above) level
  levels_hold v h level a t among is low =
      subst (λ (o : Option Term). unless_mark v o ≡ true) is
      (all_contained (λ (b : Option Term × ℕ). unless_mark v b.0) (live_by_level s.first s.above) a
      (live_hold v s.first s.above ∙ h) among)

  module _ (given : List Assumption) (bools : list_all (assumption_fits s.sorts) given ≡ true) where
    -- assumptions that are contradicted have no model
    no_model : (named : List Assumption) → list_all (assumption_fits s.sorts) named ≡ true
        → AreContradicted (question_in s given) named → Satisfiable s named → ⊥
    no_model named fine contradicted model =
        let v = model.0 in
        let parts = and_parts (fits (constants_of s) v) (all_hold (map assumed named ++ live_terms s) v) model.1 in
        let both = and_parts (all_hold (map assumed named) v) (all_hold (live_terms s) v)
        (sym (hold_both (map assumed named) (live_terms s) v) ∙ parts.1) in
        let sorts = sorts_of v parts.0 in
        contradicted v (has_words (constants_of s) v parts.0) sorts (levels_hold v both.1)
        (sym (given_hold v s.sorts sorts named fine) ∙ both.0)

    none_at : (places : List ℕ) (named : List Assumption) → list_all (assumption_fits s.sorts) named ≡ true
        → AreContradictedAt (question_in s given) places named → AreContradictory s places named
    none_at places named fine contradicted v fitting h =
        let both = and_parts (all_hold (map assumed named) v) (all_hold (terms_at (live s) places) v)
        (sym (hold_both (map assumed named) (terms_at (live s) places) v) ∙ h) in
        let sorts = sorts_of v fitting in
        contradicted v (has_words (constants_of s) v fitting) sorts (places_hold v s.first s.above places both.1)
        (sym (given_hold v s.sorts sorts named fine) ∙ both.0)

    true_unsat : (kept after : AllKept) (id : ℕ) (places : Option (List ℕ)) → after ≡ count_again kept
        → IsUnsat (question_in s given) kept id places → IsTrueUnsat s given after id places
    true_unsat kept after id places same h =
        let denied : Assumption → Bool =
        λ a. list_any (λ l. denies l (slice_get kept.atoms l.atom) a) h.clause.literals in
        let named = denied_by (question_in s given) kept h.clause in
        let fine = all_filter (assumption_fits s.sorts) denied (each_once given)
        (all_once (assumption_fits s.sorts) given bools) in
        subst (λ (k : AllKept). IsTrueUnsat s given k id places) (sym same) (record {
          inside = h.inside;
          all = no_model given bools h.all;
          clause = h.clause;
          there = h.there;
          core = record { some = some_once denied given; contradicted = no_model named fine h.core };
          rests = λ listed is.
              subst (λ (ps : List ℕ). AreContradictory s ps named) (sym (h.listed listed is))
              (none_at (rests_of kept id) named fine h.rests);
        })

    true_sat : (values : List Value) → IsModel (question_in s given) values → IsTrueSat s given values
    true_sat values h =
        let v = h.valuation in
        let assumptions = given_hold v s.sorts (sorts_of v h.fit) given bools ∙ h.assumptions in
        let terms = asserted_hold v s.first s.above h.assertions in
        record {
          inside = h.inside;
          valuation = v;
          of_constants = h.valued_so;
          model = and_from (fits (constants_of s) v) (all_hold (map assumed given ++ live_terms s) v) h.fit
              (hold_both (map assumed given) (live_terms s) v
              ∙ and_from (all_hold (map assumed given) v) (all_hold (live_terms s) v) assumptions terms);
        }

    true_of : (kept after : AllKept) (lines : List LineText) (said : Said) → after ≡ count_again kept
        → kept.counted ≡ counted_among lines → MeansSo (question_in s given) kept said
        → IsTrueOf s given after lines said
    true_of kept after lines (said_unsat id places) same counts h = true_unsat kept after id places same h
    true_of kept after lines (said_sat values) same counts h = true_sat values h
    true_of kept after lines (said_unknown n) same counts h =
        record { inside = h.inside; limit = h.limit; counted = sym counts ∙ h.counted }
    true_of kept after lines said_unsupported same counts h = h

-- All entries.

module _ (s : State) (fit : IsFit s) (entries : List Entry)
    (more : (now : State) → IsFit now → (p : Progress) (came : List LineText) (verdicts : List Said)
    → AllMeanSo p (events now entries) came verdicts → AreTrue now p entries came verdicts) where
  true_behind : (x : Step) → IsKept s x → (p : Progress) (came : List LineText) (verdicts : List Said)
      → AllMeanSo p (events_of x s
      ++ elim (state_behind x s) as (λ _. List Event) [ Some next ↦ events next entries | None ↦ [] ]) came verdicts
      → AreTrueBehind x s p (λ next after left rest. AreTrue next after entries left rest) came verdicts
  true_behind (answers text new) kept p came verdicts h = more new kept.fit p came verdicts h
  true_behind (leaves (above level) text new) kept p came verdicts h =
      more new kept.1 (meets (leaves_above level) p) came verdicts h
  true_behind (leaves all text new) kept p came verdicts h = more new kept.1 (meets leaves_all p) came verdicts h
  true_behind (checks given) bools p came [] h = absurd h
  true_behind (checks given) bools p came (said ∷ verdicts) h =
      let answer = h.6 in
      record {
        lines = h.0;
        verdict = h.1;
        left = h.2;
        whole = h.3;
        no_verdicts = answer.no_verdicts;
        is_verdict = answer.is_verdict;
        after = h.4;
        run = h.5;
        so = true_of s fit given bools answer.kept h.4.kept h.0 said answer.kept_on answer.counted answer.means;
        rest = more s fit h.4 h.2 verdicts h.7;
      }
  true_behind (exits text) kept p came verdicts h = h

true_along : (entries : List Entry) (s : State) → IsFit s → (p : Progress) (came : List LineText) (verdicts : List Said)
    → AllMeanSo p (events s entries) came verdicts → AreTrue s p entries came verdicts
true_along [] s fit p came verdicts h = h
true_along (entry ∷ entries) s fit p came verdicts h =
    true_behind s fit entries (true_along entries) (step_of entry s) (entry_keeps s fit entry) p came verdicts h

pub script_true : AcceptedScriptMeansSo → AcceptedScriptIsTrue
script_true means entries bytes verdicts h =
    true_along entries state.start start_fits beginning (texts_of bytes) verdicts (means entries bytes verdicts h)

-- A kept clause each of whose literals denies an assumption is true under no valuation that makes all of them true.
pub clause_refutes : ClauseRefutes
clause_refutes s given kept id clause fit bools sound there refuting =
    let q = question_in s given in
    let denied : Assumption → Bool = λ a. list_any (λ l. denies l (slice_get kept.atoms l.atom) a) clause.literals in
    let named = denied_by q kept clause in
    let fine = all_filter (assumption_fits s.sorts) denied (each_once given)
    (all_once (assumption_fits s.sorts) given bools) in
    let kept_true : (v : Valuation) → HasWords v → HasSorts v s.sorts
    → ((level : ℕ) → LevelsHold v (asked_in s).live level) → clause_holds v kept.atoms clause.literals ≡ true =
    λ v words sorts levels. sound.clauses id clause there v words sorts (levels clause.level) in (
      no_model s fit given bools given bools
          (λ v words sorts levels hold.
          false≢true (sym (refuted q kept clause refuting v (kept_true v words sorts levels)) ∙ hold)),
      record {
        some = some_once denied given;
        contradicted = no_model s fit given bools named fine
            (λ v words sorts levels hold.
            false≢true (sym (named_false q kept clause refuting v (kept_true v words sorts levels)) ∙ hold));
      },
    )
