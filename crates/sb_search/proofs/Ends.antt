-- How a turn ends.
use Rattle.sb_search.proofs.Words.{◌≡◌, ◌⊎◌, ℕ, ◌+◌, ◌<◌, ◌≤◌, Bool, true, length, List, [], ◌∷◌, Option, None, refl, sym, ◌∙◌, ap, subst, inl, inr, arith, length-append, HasLaws, Lit, Spending, Kept, Assigned, IsTrail, current_level, up_to, State, GrowsBy, AreReasoned, IsAsserting, below_up_to, learned_line, has_text, HasKnownAtoms, decided, with_lemma, FollowsByLevel, GrowsTo, IsFound, IsSearching, IsLowest, Moment, moment, proof_at, measure_at, left_at, GoesBack, IsReady, Steps, IsSpentOn, IsSpentOr, IsNoWorse, IsAnswered, Refutes, IsWritten, LessonsFollow, nothing, learns, written, kept_behind, Found, Checked, Ghosts, line, with_bytes, Learned, below_learned, text_of, Keeps, IsBetter, GoesOn, IsTurned, Stage, Turn}
use Rattle.sb_search.specs.declared.found.Found.TheVariants as found
use Rattle.sb_search.specs.declared.turn.Turn.TheVariants as turn
use Rattle.sb_search.specs.declared.theory.Checked.TheVariants as checked
use Rattle.sb_search.proofs.Steps.{spent_more, spent_or, back_none, steps_both, steps_written, known_after, steps_asked, known_asked}
use Rattle.sb_search.proofs.Turns.{searching_grown, below_at, below_lemma, below_back}

-- all is spent
pub refutes_spent : (assumptions : List Lit) (search : State) (before after : Spending) (told : Option (List ℕ))
    → AreReasoned search.kept [] search.trail.literals → after ≡ before → before.spent ≡ before.limit
    → Refutes assumptions search search before after told told found.Spent
refutes_spent assumptions search before after told reasoned same all = record {
  says = λ wanted. subst (λ (b : Spending). b.spent ≡ b.limit) (sym same) all;
  not_sat = λ is. Prim.cc (is);
  reasoned = reasoned;
  literals = refl;
  writes = nothing (ap (λ (b : Spending). written search.kept b told) same);
}

spent_weaker : (P Q : Type 0) (before after : Spending) → (P → Q) → IsSpentOr before after P → IsSpentOr before after Q
spent_weaker P Q before after f (inl more) = inl more
spent_weaker P Q before after f (inr h) = inr (h.0, f h.1)

-- an answer of a theory that is known
pub answered_as : {T : Type 0} {t : Ghosts T} {last : Bool} {a b : Moment T} {answer known : Checked}
    → IsAnswered t last a b answer → answer ≡ known → IsAnswered t last a b known
answered_as {t = t} {last = last} {a = a} {b = b} h is = subst (λ (x : Checked). IsAnswered t last a b x) is h

spent_on : (P Q R : Type 0) (before between after : Spending) → (P → Q → R) → IsSpentOn between after
    → IsSpentOr before between P → IsSpentOr between after Q → IsSpentOr before after R
spent_on P Q R before between after f spends (inl more) k = inl (omega (arith, more, spends.spent))
spent_on P Q R before between after f spends (inr h) (inl more) = inl (omega (arith, more, h.0))
spent_on P Q R before between after f spends (inr h) (inr k) = inr (k.0 ∙ h.0, f h.1 k.1)

-- a theory that was asked wants what it did
pub searching_asked : {T : Type 0} {t : Ghosts T} {assumptions : List Lit} {stage : Stage} {last : Bool}
    {a b : Moment T} {answer : Checked} → IsAnswered t last a b answer → IsReady t assumptions stage a.theory a.search
    → IsSearching (t.wanted b.theory) assumptions stage.levels stage.next a.search
searching_asked {assumptions = assumptions} {stage = stage} {a = a} h ready =
    subst (λ (w : List ℕ). IsSearching w assumptions stage.levels stage.next a.search) (sym h.stays.wanted)
    ready.searching

-- no worse, and then no worse or better
pub no_worse_on : {T : Type 0} (t : Ghosts T) (a b c : Moment T) → IsSpentOn b.budget c.budget → IsNoWorse t a b
    → IsNoWorse t b c → IsNoWorse t a c
no_worse_on t a b c =
    spent_on (measure_at t b ≤ measure_at t a) (measure_at t c ≤ measure_at t b) (measure_at t c ≤ measure_at t a)
    a.budget b.budget c.budget (λ h k. omega (arith, h, k))

pub better_on : {T : Type 0} (t : Ghosts T) (a b c : Moment T) → IsSpentOn b.budget c.budget → IsNoWorse t a b
    → IsBetter t b c → IsBetter t a c
better_on t a b c =
    spent_on (measure_at t b ≤ measure_at t a) (measure_at t c < measure_at t b) (measure_at t c < measure_at t a)
    a.budget b.budget c.budget (λ h k. omega (arith, h, k))

-- what holds where nothing was spent
pub unspent : {P : Type 0} (before after : Spending) → after.spent ≤ before.spent → IsSpentOr before after P
    → (after.spent ≡ before.spent) × P
unspent before after level (inl more) = absurd (omega (arith, more, level))
unspent before after level (inr h) = h

module _ {T : Type 0} {t : Ghosts T} (laws : HasLaws t) (assumptions : List Lit) where
  -- a turn begins with propagation
  pub ready_grown : (stage : Stage) (x : T) (old new : State) → new.kept ≡ old.kept
      → GrowsBy old.kept old.trail new.trail → IsReady t assumptions stage x old → IsReady t assumptions stage x new
  ready_grown stage x old new kept grows h = record {
    searching = searching_grown (t.wanted x) assumptions stage.levels stage.next old new h.searching kept grows;
    stands = subst (λ (es : List Assigned). t.stands x es) (sym grows.literals)
        (laws.stands_longer x old.trail.literals grows.added h.stands);
    known = subst (λ (k : Kept). HasKnownAtoms (t.passes x) k assumptions) (sym kept) h.known;
  }

  pub turned_grown : (stage : Stage) (a b : Moment T) (middle : State) (how : Turn) → middle.kept ≡ a.search.kept
      → GrowsBy a.search.kept a.search.trail middle.trail
      → IsTurned t assumptions stage (moment a.theory middle a.budget a.told) b how
      → IsTurned t assumptions stage a b how
  turned_grown stage a b middle how kept grows h = record {
    steps = record {
      stays = h.steps.stays;
      grows = subst (λ (k : Kept). GrowsTo k b.search.kept) kept h.steps.grows;
      follows = subst (λ (k : Kept). FollowsByLevel (t.teaches b.theory) k b.search.kept) kept h.steps.follows;
      spends = h.steps.spends;
      puts = subst (λ (k : Kept). t.puts a.theory b.theory (written k a.budget a.told) (proof_at b)) kept h.steps.puts;
    };
    goes_on = by_turn how h.goes_on;
  }
    where
      falls : t.measure a.theory middle.kept middle.trail.literals ≤ measure_at t a
      falls =
          subst (λ (k : Kept). t.measure a.theory k middle.trail.literals ≤ measure_at t a) (sym kept)
          (subst (λ (es : List Assigned). t.measure a.theory a.search.kept es ≤ measure_at t a) (sym grows.literals)
          (laws.measure_longer a.theory a.search.kept a.search.trail.literals grows.added))

      by_turn : (u : Turn) → GoesOn t assumptions stage (moment a.theory middle a.budget a.told) b u
          → GoesOn t assumptions stage a b u
      by_turn (turn.Ends f) g = g
      by_turn turn.Decides g = (
        g.0,
        spent_weaker _ _ a.budget b.budget (λ le. omega (arith, le, falls)) g.1,
        omega (
          arith,
          g.2,
          grows.reserved,
          ap (λ (es : List Assigned). length es) grows.literals,
          length-append a.search.trail.literals grows.added,
        ),
      )
      by_turn turn.Moves g = (g.0, spent_weaker _ _ a.budget b.budget (λ lt. omega (arith, lt, falls)) g.1)

  -- the assumptions are refuted, or all is spent
  pub turn_refuted : (stage later : Stage) (a : Moment T) (new : State) (budget : Spending) (told : Option (List ℕ))
      (f : Found) → IsReady t assumptions stage a.theory a.search
      → Refutes assumptions a.search new a.budget budget a.told told f
      → IsTurned t assumptions later a (moment a.theory new budget told) (turn.Ends f)
  turn_refuted stage later a new budget told f ready h =
      let b = moment a.theory new budget told in
      record {
        steps = steps_written laws assumptions a b (back_none laws a.theory) ready.known h.writes;
        goes_on = record {
          says = h.says (t.wanted a.theory);
          agrees = λ is. absurd (h.not_sat is);
          reasoned = h.reasoned;
          stands = subst (λ (es : List Assigned). t.stands a.theory es) (sym h.literals) ready.stands;
          known = known_after laws assumptions a b (back_none laws a.theory) ready.known h.writes;
        };
      }

  -- a clause was learned
  pub turn_learned : LessonsFollow → (stage later : Stage) (a b : Moment T) (lesson : Learned) (level : ℕ)
      → IsReady t assumptions stage a.theory a.search → IsTrail a.search.trail
      → IsAsserting a.search.kept a.search.trail.literals (current_level a.search.trail.literals) lesson
      → has_text (learned_line lesson.clause lesson.hints) ≡ true
      → a.budget.spent < a.budget.limit → b.budget ≡ record a.budget { spent = a.budget.spent + 1 }
      → b.told ≡ with_bytes (line (text_of (learned_line lesson.clause lesson.hints))) a.told
      → (level ≡ lesson.backjump_level) ⊎ (level ≡ 0) → GoesBack t a.theory b.theory
      → Keeps t a.theory b.theory a.search b.search stage.levels stage.next later level
      (record { literals = lesson.clause; level = lesson.level }) → IsTurned t assumptions later a b turn.Moves
  turn_learned follows stage later a b lesson level ready is_trail h text room spent told at_level back keeps =
      let writes : IsWritten assumptions (proof_at a) (proof_at b) =
      learns lesson.clause lesson.hints lesson.level h.is_lesson
      (follows a.search.kept lesson.clause lesson.hints lesson.level h.is_lesson) text room
      (rw (keeps.kept, spent, told)) in
      record {
        steps = steps_written laws assumptions a b back ready.known writes;
        goes_on = (
          record {
            searching = keeps.searching assumptions ready.searching
                (below_at _ a.search.trail.literals level lesson.backjump_level at_level
                (below_learned a.search.kept a.search.trail.literals (current_level a.search.trail.literals) lesson
                is_trail.distinct h
                (below_up_to a.search.kept a.search.trail.literals lesson.backjump_level ready.searching.below
                h.below)));
            stands = keeps.stands ready.stands;
            known = known_after laws assumptions a b back ready.known writes;
          },
          inl (spent_more a.budget b.budget spent),
        );
      }

  -- the theory was asked, and the search ends
  pub turn_ended : {stage : Stage} {a b : Moment T} {last : Bool} {answer : Checked} (later : Stage) (f : Found)
      → IsAnswered t last a b answer → IsReady t assumptions stage a.theory a.search
      → a.search.kept ≡ kept_behind a.search.kept answer → IsFound (t.wanted b.theory) assumptions a.search b.budget f
      → (f ≡ found.Sat → t.agrees b.theory a.search.trail.literals)
      → IsTurned t assumptions later a (moment b.theory a.search b.budget b.told) (turn.Ends f)
  turn_ended {a = a} {b = b} {last = last} {answer = answer} later f h ready same says agrees =
      let back = back_none laws b.theory in
      record {
        steps = steps_asked last a b answer b.theory a.search h back same laws;
        goes_on = record {
          says = says;
          agrees = agrees;
          reasoned = ready.searching.reasoned;
          stands = h.stands;
          known = known_asked last a b answer b.theory a.search h back same assumptions ready.known;
        };
      }

  -- it gave a lemma
  pub turn_taken : {stage : Stage} {a b : Moment T} {last : Bool} {clause : List Lit} (later : Stage) (z : T)
      (new : State) (level : ℕ) → IsAnswered t last a b (checked.Lemma clause)
      → IsReady t assumptions stage a.theory a.search → IsTrail a.search.trail
      → IsLowest a.search.trail.literals clause level → GoesBack t b.theory z
      → Keeps t b.theory z a.search new stage.levels stage.next later level (record { literals = clause; level = 0 })
      → IsTurned t assumptions later a (moment z new b.budget b.told) turn.Moves
  turn_taken {stage = stage} {a = a} {b = b} {last = last} {clause = clause} later z new level h ready is_trail lowest
      back keeps = record {
        steps = steps_asked last a b (checked.Lemma clause) z new h back keeps.kept laws;
        goes_on = (
          record {
            searching = keeps.searching assumptions (searching_asked h ready)
                (below_lemma a.search.kept (record { literals = clause; level = 0 }) a.search.trail.literals level
                lowest (below_back a.search.kept a.search.trail.literals level is_trail.levelled ready.searching.below));
            stands = keeps.stands h.stands;
            known = known_asked last a b (checked.Lemma clause) z new h back keeps.kept assumptions ready.known;
          },
          spent_or _ a.budget b.budget h.spends (λ none.
              subst (λ (k : Kept). t.measure z k new.trail.literals < measure_at t a) (sym keeps.kept)
              (subst (λ (es : List Assigned). t.measure z (with_lemma a.search.kept clause) es < measure_at t a)
              (sym keeps.literals)
              (omega (
                arith,
                h.falls none level,
                back.falls (with_lemma a.search.kept clause) (up_to level a.search.trail.literals),
              )))),
        );
      }

  ready_decided : (later : Stage) (x : T) (es : List Assigned) (new : State) (l : Lit)
      → IsSearching (t.wanted x) assumptions later.levels later.next new → new.trail.literals ≡ decided es l
      → t.stands x es → HasKnownAtoms (t.passes x) new.kept assumptions → IsReady t assumptions later x new
  ready_decided later x es new l searching longer stands known = record {
    searching = searching;
    stands = subst (λ (xs : List Assigned). t.stands x xs) (sym longer) (laws.stands_longer x es _ stands);
    known = known;
  }

  -- a literal is decided, for which the theory asked
  pub turn_granted : {stage : Stage} {a b : Moment T} {last : Bool} {l : Lit} (later : Stage) (new : State)
      → IsAnswered t last a b (checked.Ask l) → IsReady t assumptions stage a.theory a.search
      → IsSearching (t.wanted b.theory) assumptions later.levels later.next new → new.kept ≡ a.search.kept
      → new.trail.literals ≡ decided a.search.trail.literals l
      → IsTurned t assumptions later a (moment b.theory new b.budget b.told) turn.Moves
  turn_granted {a = a} {b = b} {last = last} {l = l} later new h ready searching kept longer =
      let back = back_none laws b.theory in
      record {
        steps = steps_asked last a b (checked.Ask l) b.theory new h back kept laws;
        goes_on = (
          ready_decided later b.theory a.search.trail.literals new l searching longer h.stands
              (known_asked last a b (checked.Ask l) b.theory new h back kept assumptions ready.known),
          spent_or _ a.budget b.budget h.spends (λ none.
              subst (λ (k : Kept). t.measure b.theory k new.trail.literals < measure_at t a) (sym kept)
              (subst (λ (es : List Assigned). t.measure b.theory a.search.kept es < measure_at t a) (sym longer)
              (h.falls none).1)),
        );
      }

  -- or which is next
  pub turn_decided : {stage : Stage} {a b : Moment T} {last : Bool} {answer : Checked} (later : Stage) (new : State)
      (l : Lit) → IsAnswered t last a b answer → IsReady t assumptions stage a.theory a.search
      → a.search.kept ≡ kept_behind a.search.kept answer
      → (b.budget.spent ≡ a.budget.spent → t.measure b.theory a.search.kept a.search.trail.literals ≤ measure_at t a)
      → IsSearching (t.wanted b.theory) assumptions later.levels later.next new
      → new ≡ record a.search { trail = record a.search.trail { literals = decided a.search.trail.literals l } }
      → length a.search.trail.literals < a.search.trail.reserved
      → IsTurned t assumptions later a (moment b.theory new b.budget b.told) turn.Decides
  turn_decided {a = a} {b = b} {last = last} {answer = answer} later new l h ready same falls searching is_new within =
      let back = back_none laws b.theory in
      let e : Assigned = record { literal = l; level = current_level a.search.trail.literals + 1; reason = None } in
      let kept = ap (λ (s : State). s.kept) is_new ∙ same in
      record {
        steps = steps_asked last a b answer b.theory new h back kept laws;
        goes_on = (
          ready_decided later b.theory a.search.trail.literals new l searching
              (ap (λ (s : State). s.trail.literals) is_new) h.stands
              (known_asked last a b answer b.theory new h back kept assumptions ready.known),
          spent_or _ a.budget b.budget h.spends (λ none.
              subst (λ (s : State). t.measure b.theory s.kept s.trail.literals ≤ measure_at t a) (sym is_new)
              (omega (arith, falls none, laws.measure_longer b.theory a.search.kept a.search.trail.literals (e ∷ [])))),
          subst (λ (s : State). left_at s < left_at a.search) (sym is_new)
              (omega (arith, length-append a.search.trail.literals (e ∷ []), within)),
        );
      }

  -- turns behind others
  pub turned_on : {a b c : Moment T} {later : Stage} {how u : Turn} → Steps t a b → IsTurned t assumptions later b c how
      → how ≡ u → Steps t a c × GoesOn t assumptions later b c u
  turned_on {a = a} {b = b} {c = c} {later = later} h k is = (
    steps_both laws a b c h k.steps,
    subst (λ (u : Turn). GoesOn t assumptions later b c u) is k.goes_on,
  )
