-- The steps of a walk along the trail, from its end.
use Rattle.std.proofs.Common.{◌≡◌, ℕ, ◌+◌, ◌-◌, ◌<◌, ◌≤◌, leb, true, false, List, [], ◌∷◌, ◌++◌, length, get_or, take, Option, Some, None, refl, sym, ◌∙◌, ap, subst, inl, inr, arith}
use Rattle.std.proofs.lemmas.List.{take_more}
use Rattle.std.specs.List.{list_all}
use Rattle.std.proofs.lemmas.Bool.{and_parts}
use Rattle.std.proofs.lemmas.Option.{same_Some}
use Rattle.std.proofs.lemmas.List.Folds.{list_all-append}
use Rattle.sb_lit.specs.declared.clause.ClauseId.{ClauseId}
use Rattle.sb_lit.specs.Clauses.{negation, leaves_only}
use Rattle.sb_lit.specs.Kept.{Kept, KeptClause, kept_at}
use Rattle.sb_trail.specs.declared.assigned.Assigned.{Assigned}
use Rattle.sb_trail.specs.Assignments.{Assignments, IsTrail, held, level_after, level_behind, AreDistinct}
use Rattle.sb_analyze.specs.Reasons.{AreReasoned}
use Rattle.sb_analyze.specs.Explaining.{Explanation, is_met, is_pending, with_literals, with_clause, traced}
use Rattle.sb_analyze.specs.Explained.{Stands, IsExplaining, IsWalked, IsFirstUip, IsTraced}
use Rattle.sb_trail.proofs.CallerLemmas.{AreLevelled-front, level_behind-above, AreDistinct-pop}
use Rattle.sb_analyze.proofs.Entries.{distinct_front, stands_front, reasoned_at, level_at, level_below, stands_last}
use Rattle.sb_analyze.proofs.Named.{literals_of, named_push, named_clause}
use Rattle.sb_analyze.proofs.Marks.{same_clause_at_zero}
use Rattle.sb_analyze.proofs.Chains.{forces_from, walked_skip, walked_resolve, walked_left, alone_by_count, alone_by_level, explaining_end, explaining_skip, explaining_resolve, explaining_stay, extends_t, some_pending}

-- where nothing is to be resolved the walk down to decisions is at its end
pub trace_end : (kept : Kept) (entries front : List Assigned) (start s : Explanation)
    → IsTraced kept entries start front s → s.pending ≡ 0 → IsTraced kept entries start [] s
trace_end kept entries front start s h none_left =
    record { here = h.here; base = explaining_end kept front s h.base none_left; named = h.named; decided = h.decided }

module _ (kept : Kept) (trail : Assignments) (is_trail : IsTrail trail) (reasoned : AreReasoned kept [] trail.literals)
    (place : ℕ) (d : Assigned) (some : 0 < place) (within : place ≤ length trail.literals) (lev : ℕ) where
  abbrev pub entry : Assigned
  entry = get_or trail.literals (place - 1) d

  abbrev pub front : List Assigned
  front = take (place - 1) trail.literals

  pub one_more : take place trail.literals ≡ front ++ entry ∷ []
  one_more =
      let index : place ≡ (place - 1) + 1 = omega arith in
      ap (λ n. take n trail.literals) index ∙ take_more trail.literals (place - 1) d (omega arith)

  pub distinct_more : AreDistinct (front ++ entry ∷ [])
  distinct_more = subst AreDistinct one_more (distinct_front place trail.literals is_trail.distinct)

  pub stands_more : (f : Assigned) → Stands (front ++ entry ∷ []) f → Stands trail.literals f
  stands_more f there =
      stands_front place trail.literals f is_trail.distinct
      (subst (λ (es : List Assigned). Stands es f) (sym one_more) there)

  here : place - 1 < length trail.literals
  here = omega arith

  level : entry.level ≡ level_behind (level_after 0 front) entry.reason
  level = level_at 0 trail.literals (place - 1) d here is_trail.levelled

  below : (f : Assigned) → Stands front f → f.level ≤ level_after 0 front
  below f there = level_below 0 front f (AreLevelled-front 0 (place - 1) trail.literals is_trail.levelled) there

  pub levels_below : (f : Assigned) → Stands front f → f.level ≤ entry.level
  levels_below f there = omega (arith, below f there, level, level_behind-above (level_after 0 front) entry.reason)

  decision_above : (o : Option ClauseId) → o ≡ None → level_behind (level_after 0 front) o ≡ level_after 0 front + 1
  decision_above None is = refl
  decision_above (Some x) is = absurd (Prim.cc)

  levels_under : entry.reason ≡ None → (f : Assigned) → Stands front f → f.level < entry.level
  levels_under is f there = omega (arith, below f there, level, decision_above entry.reason is)

  walked : (s : Explanation) → IsWalked kept trail.literals lev (take place trail.literals) s
      → IsWalked kept trail.literals lev (front ++ entry ∷ []) s
  walked s h = subst (λ (es : List Assigned). IsWalked kept trail.literals lev es s) one_more h

  pub step_skip : (s : Explanation) → IsWalked kept trail.literals lev (take place trail.literals) s
      → is_pending s.level s.marks entry ≡ false → IsWalked kept trail.literals lev front s
  step_skip s h off = walked_skip kept trail.literals front entry is_trail.distinct distinct_more stands_more lev s
      (walked s h) off

  -- the reason of the entry
  pub reason_here : (reason : ClauseId) → entry.reason ≡ Some reason
      → (clause : KeptClause) × (kept_at kept reason.0 ≡ Some clause)
      × (leaves_only (held front) clause.literals entry.literal ≡ true)
  reason_here reason is =
      elim (reasoned_at kept [] trail.literals (place - 1) d here reasoned) [
        | inl none ↦ absurd (Prim.cc (is, none))
        | inr h ↦
            let same : h.id ≡ reason = same_Some h.id reason (sym h.reason ∙ is) in
            (h.clause, ap (λ (x : ClauseId). kept_at kept x.0) (sym same) ∙ h.there, h.forces)
      ]

  pub step_resolve : (s : Explanation) → IsWalked kept trail.literals lev (take place trail.literals) s
      → is_pending s.level s.marks entry ≡ true → (s.pending ≡ 1 → ⊥) → (reason : ClauseId) → entry.reason ≡ Some reason
      → (t : Explanation) → t ≡ with_clause kept trail.literals s reason.0
      → IsWalked kept trail.literals lev front (record t { pending = t.pending - 1 })
  step_resolve s h on more reason is t equal =
      let r = reason_here reason is in
      let same : t ≡ with_literals trail.literals (record s { hints = reason.0 ∷ s.hints }) r.0.literals =
      equal ∙ ap (with_literals trail.literals (record s { hints = reason.0 ∷ s.hints }))
      (literals_of kept reason.0 r.0 r.1) in
      subst (λ (u : Explanation). IsWalked kept trail.literals lev front (record u { pending = u.pending - 1 }))
      (sym same)
      (walked_resolve kept trail.literals front entry is_trail.distinct distinct_more stands_more lev s (walked s h) on
      reason.0 r.0 r.1
      (forces_from kept trail.literals front entry is_trail.distinct distinct_more stands_more r.0.literals r.2) more
      levels_below)

  pub step_last : (s : Explanation) → IsWalked kept trail.literals lev (take place trail.literals) s
      → is_pending s.level s.marks entry ≡ true → s.pending ≡ 1 → IsFirstUip kept trail.literals lev s entry.literal
  step_last s h on one =
      walked_left kept trail.literals front entry is_trail.distinct distinct_more stands_more lev s (walked s h) on
      (alone_by_count kept trail.literals front entry is_trail.distinct distinct_more stands_more s (walked s h).base on
      one)

  pub step_decision : (s : Explanation) → IsWalked kept trail.literals lev (take place trail.literals) s
      → is_pending s.level s.marks entry ≡ true → entry.reason ≡ None
      → IsFirstUip kept trail.literals lev s entry.literal
  step_decision s h on is =
      walked_left kept trail.literals front entry is_trail.distinct distinct_more stands_more lev s (walked s h) on
      (alone_by_level kept trail.literals front entry is_trail.distinct distinct_more stands_more lev s (walked s h) on
      (levels_under is))

  explaining : (s : Explanation) → IsExplaining kept (take place trail.literals) s
      → IsExplaining kept (front ++ entry ∷ []) s
  explaining s h = subst (λ (es : List Assigned). IsExplaining kept es s) one_more h

  pub stands_here : Stands trail.literals entry
  stands_here = stands_more entry (stands_last front entry (AreDistinct-pop front entry distinct_more).1)

  module _ (start : Explanation) where
    pub trace_skip : (s : Explanation) → IsTraced kept trail.literals start (take place trail.literals) s
        → is_pending s.level s.marks entry ≡ false → IsTraced kept trail.literals start front s
    trace_skip s h off = record {
      here = h.here;
      base = explaining_skip kept trail.literals front entry is_trail.distinct distinct_more stands_more s
          (explaining s h.base) off;
      named = h.named;
      decided = h.decided;
    }

    -- one more literal that is resolved or stays
    pub record IsStep (s t : Explanation) : Type 0 where
      pub counted : 1 ≤ t.pending
      pub traced : IsTraced kept trail.literals start front (record t { pending = t.pending - 1 })

    module _ (s : Explanation) (h : IsTraced kept trail.literals start (take place trail.literals) s)
        (on : is_pending s.level s.marks entry ≡ true) where
      by_reason : (reason : ClauseId) → entry.reason ≡ Some reason
          → IsStep s (with_clause kept trail.literals s reason.0)
      by_reason reason is =
          let r = reason_here reason is in
          let forced = forces_from kept trail.literals front entry is_trail.distinct distinct_more stands_more
          r.0.literals r.2 in
          let same : with_clause kept trail.literals s reason.0
          ≡ with_literals trail.literals (record s { hints = reason.0 ∷ s.hints }) r.0.literals =
          ap (with_literals trail.literals (record s { hints = reason.0 ∷ s.hints }))
          (literals_of kept reason.0 r.0 r.1) in
          let extends = extends_t kept trail.literals front entry is_trail.distinct distinct_more stands_more s
          (explaining s h.base) on reason.0 r.0 r.1 forced in
          let stays : (with_literals trail.literals (record s { hints = reason.0 ∷ s.hints }) r.0.literals).clause
          ≡ s.clause =
          same_clause_at_zero trail.literals r.0.literals (record s { hints = reason.0 ∷ s.hints }) h.here in
          subst (λ (t : Explanation). IsStep s t) (sym same) (record {
            counted = omega (
              arith,
              extends.pending,
              some_pending kept trail.literals front entry is_trail.distinct distinct_more stands_more s
                  (explaining s h.base) on,
            );
            traced = record {
              here = extends.level ∙ h.here;
              base = explaining_resolve kept trail.literals front entry is_trail.distinct distinct_more stands_more s
                  (explaining s h.base) on reason.0 r.0 r.1 forced;
              named = named_clause kept trail.literals is_trail.distinct s reason.0 r.0.literals
                  (literals_of kept reason.0 r.0 r.1) h.named
                  (with_literals trail.literals (record s { hints = reason.0 ∷ s.hints }) r.0.literals) refl;
              decided = λ p start_passes decisions_pass. ap (list_all p) stays
                  ∙ h.decided p start_passes decisions_pass;
            };
          })

      by_decision : entry.reason ≡ None → IsStep s (record s { clause = s.clause ++ negation entry.literal ∷ [] })
      by_decision is = record {
        counted = some_pending kept trail.literals front entry is_trail.distinct distinct_more stands_more s
            (explaining s h.base) on;
        traced = record {
          here = h.here;
          base = explaining_stay kept trail.literals front entry is_trail.distinct distinct_more stands_more s
              (explaining s h.base) on;
          named = named_push kept trail.literals s.hints s.marks s.clause (negation entry.literal) h.named
              (h.named.met entry stands_here
              (and_parts (leb s.level entry.level) (is_met s.marks entry.literal.atom) on).1);
          decided = λ p start_passes decisions_pass. list_all-append p s.clause (negation entry.literal ∷ [])
              ∙ rw (h.decided p start_passes decisions_pass, decisions_pass entry stands_here is) refl;
        };
      }

      abbrev by_option : Option ClauseId → Explanation
      by_option o = elim o as (λ _. Explanation) [
        | None ↦ record s { clause = s.clause ++ negation entry.literal ∷ [] }
        | Some id ↦ with_clause kept
            trail.literals s id.0
      ]

      by_cases : (o : Option ClauseId) → entry.reason ≡ o → IsStep s (by_option o)
      by_cases None is = by_decision is
      by_cases (Some reason) is = by_reason reason is

      pub trace_step : (t : Explanation) → t ≡ traced kept trail.literals s entry → IsStep s t
      trace_step t is = subst (λ (u : Explanation). IsStep s u) (sym is) (by_cases entry.reason refl)
