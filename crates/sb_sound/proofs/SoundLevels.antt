-- What stays true where a script goes on and where levels are left, and what a verdict then means.
use Rattle.std.proofs.Common.{◌≡◌, ℕ, zero, suc, ◌≤◌, nat_lt, Bool, true, false, if◌then◌else◌, List, [], ◌∷◌, map, slice_get, Option, Some, None, refl, sym, subst, ◌∙◌, arith}
use Rattle.std.proofs.lemmas.List.{length-map}
use Rattle.std.proofs.lemmas.Bool.{ltb-false, false≢true}
use Rattle.sb_lit.specs.Kept.{Kept, KeptClause, kept_at, stays_up_to, kept_up_to}
use Rattle.sb_meaning.specs.Terms.{Term}
use Rattle.sb_rulebook.specs.Lines.{said_sat, said_unsat, said_unknown, said_unsupported}
use Rattle.sb_meaning.specs.Values.{Valuation}
use Rattle.sb_rulebook.specs.Atoms.{clause_holds}
use Rattle.sb_rulebook.specs.Kept.{AllKept, Asked, rests_of}
use Rattle.sb_rulebook.specs.Verdicts.{Question, refusal_of}
use Rattle.sb_sound.specs.VerdictLaws.{UnsatIsRefuted, NamedAreRefuted, SatIsModel, UnknownIsCounted, UnsupportedIsOutside}
use Rattle.sb_sound.specs.SoundLaws.{LevelsHold, PlacesHold, KeepsSorts, IsSound, IsUnsat, ContinuedStaysSound, DroppedStaysSound, AllDroppedIsSound, VerdictMeansSo}
use Rattle.sb_sound.specs.Tables.{HasWords}
use Rattle.sb_sound.specs.TermLaws.{HasSorts}
use Rattle.sb_sound.proofs.RestFacts.{StandAt, levels_places}

-- a clause that stays was there, and is of a level up to this one
stays-parts : (level : ℕ) (place : Option KeptClause) (clause : KeptClause) → stays_up_to level place ≡ Some clause
    → (place ≡ Some clause) × (clause.level ≤ level)
stays-parts level None clause h = absurd (Prim.cc (h))
stays-parts level (Some c) clause h = step (nat_lt level c.level) refl h
  where
    step : (b : Bool) → nat_lt level c.level ≡ b → (if b then None else Some c) ≡ Some clause
        → (Some c ≡ Some clause) × (clause.level ≤ level)
    step true above h = absurd (Prim.cc (h))
    step false above h =
        let same : c ≡ clause = Prim.cc (h) in
        (h, subst (λ (k : KeptClause). k.level ≤ level) same (ltb-false level c.level above))

pub kept_at-up_to : (level : ℕ) (kept : Kept) (id : ℕ) (clause : KeptClause)
    → kept_at (kept_up_to level kept) id ≡ Some clause → (kept_at kept id ≡ Some clause) × (clause.level ≤ level)
kept_at-up_to level [] id clause h = absurd (Prim.cc (h))
kept_at-up_to level (place ∷ kept) zero clause h = stays-parts level place clause h
kept_at-up_to level (place ∷ kept) (suc id) clause h = kept_at-up_to level kept id clause h

kept_at-none : (kept : Kept) (id : ℕ) (clause : KeptClause)
    → kept_at (map (λ (place : Option KeptClause). None) kept) id ≡ Some clause → ⊥
kept_at-none [] id clause h = Prim.cc (h)
kept_at-none (place ∷ kept) zero clause h = Prim.cc (h)
kept_at-none (place ∷ kept) (suc id) clause h = kept_at-none kept id clause h

-- a kept clause where the script stands now
record HoldsNow (now : Asked) (kept : AllKept) (id : ℕ) (clause : KeptClause) : Type 0 where
  places : StandAt now clause.level (rests_of kept id)
  rested : (v : Valuation) → HasWords v → HasSorts v now.sorts → PlacesHold v now.live (rests_of kept id)
      → clause_holds v kept.atoms clause.literals ≡ true
  clauses : (v : Valuation) → HasWords v → HasSorts v now.sorts → LevelsHold v now.live clause.level
      → clause_holds v kept.atoms clause.literals ≡ true

-- where the live assertions of levels up to the clause's own stay at their places
still_holds : (before now : Asked) (kept : AllKept) → KeepsSorts before now → IsSound before kept → (id : ℕ)
    (clause : KeptClause) → kept_at kept.clauses id ≡ Some clause
    → ((place : ℕ) (a : Option Term × ℕ) → slice_get before.live place ≡ Some a → a.1 ≤ clause.level
    → slice_get now.live place ≡ Some a)
    → HoldsNow now kept id clause
still_holds before now kept sorts sound id clause there stays =
    record {
      places = stand;
      rested = rest;
      clauses = λ v words has hold. rest v words has (levels_places now
          clause.level (rests_of kept id) stand v hold);
    }
  where
    stand : StandAt now clause.level (rests_of kept id)
    stand place among =
        let s = sound.places id clause there place among in
        record { assertion = s.assertion; there = stays place s.assertion s.there s.low; low = s.low }

    rest : (v : Valuation) → HasWords v → HasSorts v now.sorts → PlacesHold v now.live (rests_of kept id)
        → clause_holds v kept.atoms clause.literals ≡ true
    rest v words has hold = sound.rested id clause there v words (sorts v has) (λ place a t among live is.
        let s = sound.places id clause there place among in
        let same : s.assertion ≡ a = Prim.cc (s.there, live) in
        let low = subst (λ (b : Option Term × ℕ). b.1 ≤ clause.level) same s.low in
        hold place a t among (stays place a live low) is)

pub continued_sound : ContinuedStaysSound
continued_sound before now kept goes sound =
    let still = λ (id : ℕ) (clause : KeptClause) (there : kept_at kept.clauses id ≡ Some clause).
    still_holds before now kept goes.sorts sound id clause there (λ place a live low. goes.live place a live) in
    record {
      table = sound.table;
      right = sound.right;
      empty = sound.empty;
      expanded = sound.expanded;
      died = sound.died;
      resting = sound.resting;
      known = sound.known;
      clauses = λ id clause there. (still id clause there).clauses;
      places = λ id clause there. (still id clause there).places;
      rested = λ id clause there. (still id clause there).rested;
    }

pub dropped_sound : DroppedStaysSound
dropped_sound level before now kept goes sound =
    let still = λ (id : ℕ) (clause : KeptClause)
    (there : kept_at (kept_up_to level kept.clauses) id ≡ Some clause).
    let l = kept_at-up_to level kept.clauses id clause there in
    still_holds before now kept goes.sorts sound id clause l.0
    (λ place a live low. goes.live place a live (omega (arith, low, l.1))) in
    record {
      table = sound.table;
      right = sound.right;
      empty = sound.empty;
      expanded = sound.expanded;
      died = sound.died;
      resting = sound.resting ∙ sym (length-map kept.clauses (stays_up_to level));
      known = λ id clause there. sound.known id clause (kept_at-up_to level kept.clauses id clause there).0;
      clauses = λ id clause there. (still id clause there).clauses;
      places = λ id clause there. (still id clause there).places;
      rested = λ id clause there. (still id clause there).rested;
    }

pub all_dropped_sound : AllDroppedIsSound
all_dropped_sound before now kept sound = record {
  table = sound.table;
  right = sound.right;
  empty = sound.empty;
  expanded = sound.expanded;
  died = sound.died;
  resting = sound.resting ∙ sym (length-map kept.clauses (λ (place : Option KeptClause). None));
  known = λ id clause there. absurd (kept_at-none kept.clauses id clause there);
  clauses = λ id clause there v words sorts hold. absurd (kept_at-none kept.clauses id clause there);
  places = λ id clause there place among. absurd (kept_at-none kept.clauses id clause there);
  rested = λ id clause there v words sorts hold. absurd (kept_at-none kept.clauses id clause there);
}

unsat_means : UnsatIsRefuted → NamedAreRefuted → (q : Question) (kept : AllKept) (id : ℕ) (places : Option (List ℕ))
    → IsSound q.asked kept → refusal_of q kept (said_unsat id places) ≡ None → IsUnsat q kept id places
unsat_means unsat names q kept id places sound h =
    let l = unsat q kept id places h in
    let core = names q kept id places l.clause h l.there in
    record {
      inside = l.inside;
      all = λ v words sorts hold assumed.
          let true_so = sound.clauses id l.clause l.there v words sorts (hold l.clause.level) in
          false≢true (sym (l.refutes v true_so) ∙ assumed);
      clause = l.clause;
      there = l.there;
      core = λ v words sorts hold assumed.
          let true_so = sound.clauses id l.clause l.there v words sorts (hold l.clause.level) in
          false≢true (sym (core v true_so) ∙ assumed);
      rests = λ v words sorts hold assumed.
          let true_so = sound.rested id l.clause l.there v words sorts hold in
          false≢true (sym (core v true_so) ∙ assumed);
      listed = l.listed;
    }

pub verdict_means : UnsatIsRefuted → NamedAreRefuted → SatIsModel → UnknownIsCounted → UnsupportedIsOutside
    → VerdictMeansSo
verdict_means unsat names sat unknown outside q kept (said_sat values) sound h = sat q kept values h
verdict_means unsat names sat unknown outside q kept (said_unsat id places) sound h =
    unsat_means unsat names q kept id places sound h
verdict_means unsat names sat unknown outside q kept (said_unknown n) sound h = unknown q kept n h
verdict_means unsat names sat unknown outside q kept said_unsupported sound h = (outside q kept).0 h
