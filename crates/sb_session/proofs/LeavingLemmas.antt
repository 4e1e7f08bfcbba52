-- Where levels are left, what is known of the proof goes along.
use Rattle.sb_session.proofs.Words.{AtomOver, is_sorted, Entry, EntriesKeepSorts, IsStep, Step, is_sorted_behind, is_sorted_state, step_of, ◌≡◌, ◌≤◌, ℕ, Bool, true, false, List, [], ◌∷◌, ◌++◌, length, take, Option, Some, None, is_some, IfSome, refl, sym, ap, ◌∙◌, subst, AreLow, GoesDown, HasLevels, HasRegexes, HasTrue, HaveLevels, Holds, IsAbreast, IsFit, IsTracked, LeavesProof, LevelsStay, Phase, Progress, Proving, SessionState, Stacked, State, Store, Term, asked_in, assertion_in, at_check, at_end, at_rest, behind, behind_end, is_proved, leaving, length-map, live, met, progress_by, proof_of, state_of, stopped, HaveRegexesBelow, Continues, KnowsStays, Decider, TrueGoesOn, IsLonger, live_laid}
use Rattle.sb_session.proofs.DeclaredLemmas.{declared_left}
use Rattle.sb_script.specs.Steps as meaning
use Rattle.sb_term.specs.Numbered as table
use Rattle.sb_stack.specs.declared.stack.Step.TheVariants as code

-- An entry leaves everything well sorted.

by_step : (x : meaning.Step) (old new : State) (step : Step) → IsStep x step old new → is_sorted_behind x ≡ true
    → is_sorted_state old ≡ true → is_sorted_state new ≡ true
by_step (meaning.leaves what text s) old new (code.Left bytes level) h behind sorted =
    ap (λ (t : State). is_sorted_state t) h.1.1 ∙ behind
by_step (meaning.answers text s) old new (code.Answer bytes) h behind sorted =
    ap (λ (t : State). is_sorted_state t) h.1 ∙ behind
by_step (meaning.checks given) old new code.Check h behind sorted = ap (λ (t : State). is_sorted_state t) h ∙ sorted
by_step (meaning.exits text) old new (code.Exit bytes) h behind sorted =
    ap (λ (t : State). is_sorted_state t) h.1 ∙ sorted
by_step _ old new _ h behind sorted = absurd h

pub sorted_on : EntriesKeepSorts → (entry : Entry) (old new : State) (step : Step)
    → IsStep (step_of entry old) step old new → is_sorted_state old ≡ true → is_sorted_state new ≡ true
sorted_on keep entry old new step is sorted =
    by_step (step_of entry old) old new step is (keep entry old sorted) sorted

-- no level is left
pub held_on : KnowsStays → LevelsStay → TrueGoesOn → (old new : Stacked) (kept : Decider) (proving : Proving)
    → table.Extends old.table new.table → IsLonger old.assertions new.assertions → new.words ≡ old.words
    → length old.scope.sorts ≤ length new.scope.sorts
    → (more : List (Option Term × ℕ)) × ((asked_in (state_of new)).live ≡ (asked_in (state_of old)).live ++ more)
    → IsFit (state_of new) × Continues (asked_in (state_of old)) (asked_in (state_of new))
    → is_sorted_state (state_of new) ≡ true
    → ((a : AtomOver ℕ) → is_sorted (state_of old).sorts a ≡ true → is_sorted (state_of new).sorts a ≡ true)
    → Holds old kept proving → Holds new kept proving
held_on knows levels on old new kept proving terms longer words sorts grows fits sorted stay h = record {
  knows = knows kept old new terms longer words sorts h.knows;
  regexes = h.regexes;
  levels = subst (λ (live : List (Option Term × ℕ)). HaveLevels live proving.evidence) (sym grows.1)
      (levels (asked_in (state_of old)).live grows.0 proving.evidence h.levels);
  fit = fits.0;
  sorted = sorted;
  declared = declared_left (state_of old) (state_of new) proving proving stay refl h.declared;
  sound = on (asked_in (state_of old)) (asked_in (state_of new)) kept.store proving.evidence fits.1 h.sound;
}

-- so many assertions are live
pub count_live : (s : Stacked) → length s.assertions ≡ length (live (state_of s))
count_live s = sym (ap length (live_laid s) ∙ length-map s.assertions (assertion_in s.table))

-- what the proof meets where levels are left, and no line is due
met_at_rest : (level : Option ℕ) (phase : Phase) (p : Progress) → p.phase ≡ phase → phase ≡ at_rest
    → behind (leaving level ∷ []) p ≡ met (leaving level) p
met_at_rest level phase p is rests =
    ap (λ (x : Phase). elim x as (λ _. Progress) [
      | at_rest ↦ met (leaving level) p
      | at_check q ↦ p
      | at_end ↦ p
      | behind_end ↦ p
      | stopped n refusal ↦ p
    ]) (is ∙ rests)

module _ (level : Option ℕ) (count : ℕ) (old new : State)
    (front : (asked_in new).live ≡ take (length (live new)) (asked_in old).live)
    (low : IfSome level (λ n. AreLow n (asked_in new).live)) (here : count ≡ length (live new)) where
  same_front : take count (asked_in old).live ≡ (asked_in new).live
  same_front = ap (λ (n : ℕ). take n (asked_in old).live) here ∙ sym front

  pub levels_left : (before after : Proving) → LeavesProof level count before after → HasLevels old before
      → HasLevels new after
  levels_left before after along h =
      subst (λ (live : List (Option Term × ℕ)). HaveLevels live after.evidence) same_front
      (along.levels (asked_in old).live h)

  low_front : (o : Option ℕ) → IfSome o (λ n. AreLow n (asked_in new).live)
      → IfSome o (λ n. AreLow n (take count (asked_in old).live))
  low_front None h = tt
  low_front (Some n) h = subst (AreLow n) (sym same_front) h

  -- what the evidence knows is true of what stays
  pub sound_left : (x y : Store) (before after : Proving) → y ≡ x → LeavesProof level count before after
      → GoesDown level (asked_in old) (asked_in new) → HasLevels old before → HasTrue old x before
      → HasTrue new y after
  sound_left x y before after same along goes levels sound =
      subst (λ (z : Store). HasTrue new z after) (sym same)
      (along.sound x (asked_in old) (asked_in new) goes levels (low_front level low) sound)

  pub abreast_left : (x : Store) (before after : Proving) → LeavesProof level count before after
      → HaveLevels (asked_in old).live before.evidence → (p : Progress) → IsAbreast x before p
      → IsAbreast x after (behind (leaving level ∷ []) p)
  abreast_left x before after along h p abreast =
      subst (IsAbreast x after) (sym (met_at_rest level p.phase p refl abreast.rests))
      (along.left x (asked_in old).live p abreast h (low_front level low))

-- the atoms of the evidence stay
pub regexes_left : (level : Option ℕ) (count : ℕ) (x y : Store) (before after : Proving) → y ≡ x
    → LeavesProof level count before after → HasRegexes x before → HasRegexes y after
regexes_left level count x y before after same along h =
    subst (λ (z : Store). HaveRegexesBelow (length z.arena) after.evidence.atoms) (sym same) (rw along.atoms h)

-- the proof has come so far as is known of it
pub tracked_left : (level : Option ℕ) (count : ℕ) (session after : SessionState) (proved : Bool) (before left : Proving)
    → session.proof ≡ proof_of proved before → after.proof ≡ proof_of proved left
    → (asked_in (state_of after.stack)).live ≡ take (length (live (state_of after.stack)))
    (asked_in (state_of session.stack)).live → IfSome level (λ n. AreLow n (asked_in (state_of after.stack)).live)
    → count ≡ length (live (state_of after.stack)) → after.store ≡ session.store
    → LeavesProof level count before left → HasLevels (state_of session.stack) before → (p : Progress)
    → IsTracked session p → IsTracked after (progress_by (is_proved session) (leaving level ∷ []) p)
tracked_left level count session after false before left is now front low here same along h p tracked =
    subst (λ (o : Option Proving). IsTracked (record after { proof = o })
    (progress_by (is_proved session) (leaving level ∷ []) p)) (sym now) tt
tracked_left level count session after true before left is now front low here same along h p tracked =
    let goes : Progress = behind (leaving level ∷ []) p in
    let was : IsAbreast session.store before p =
    subst (λ (o : Option Proving). IsTracked (record session { proof = o }) p) is tracked in
    let abreast = abreast_left level count (state_of session.stack) (state_of after.stack) front low here
    session.store before left along h p was in
    subst (λ (b : Bool). IsTracked after (progress_by b (leaving level ∷ []) p)) (sym (ap is_some is))
    (subst (λ (o : Option Proving). IsTracked (record after { proof = o }) goes) (sym now)
    (subst (λ (x : Store). IsAbreast x left goes) (sym same) abreast))
