-- The course of hints keeps what is held true, so a clause that its hints give is true where they are.
use Rattle.std.proofs.Common.{◌≡◌, ℕ, ◌≤◌, max, Bool, true, false, not, if◌then◌else◌, ◌&&◌, List, [], ◌∷◌, map, filter, Option, Some, None, option_map, Result, Ok, Err, refl, sym, ap, subst, ◌∙◌, inl, inr, arith}
use Rattle.std.specs.List.{list_all, list_any, Contains}
use Rattle.std.proofs.lemmas.Bool.{and_parts, and_from, or_parts, or_cases, not-true, not_from_false, false≢true, false_from_ne_true, true_from_ne_false}
use Rattle.sb_lit.specs.declared.clause.Lit.{Lit}
use Rattle.sb_lit.specs.Clauses.{negation, is_same_literal, are_ascending, is_false_under, is_open_under}
use Rattle.sb_lit.specs.Kept.{KeptClause, Kept, kept_at}
use Rattle.sb_lit.specs.Hints.{hinted, is_repeated, Finding, falsified, forces, idle, finding_of_rest, finding, Course, ends_false, stays_open, has_idle_hint, course, greatest_level, Unlearned, unknown_hint, repeated_clause, not_by_hints, level_by, learned}
use Rattle.sb_lit.proofs.CallerLemmas.{is_same_literal-true, all_among}
use Rattle.sb_sound.specs.HintLaws.{IsAssignment, AreTrue, LearnedHolds, LearnedHasLevels}
use Rattle.sb_sound.proofs.PassFacts.{both_pass, list_any-filter, Contains-cases, Contains-first, Contains-later, Contains-none}

-- What a clause that is learned has.

pub record IsLearned (kept : Kept) (clause : List Lit) (ids : List ℕ) (level : ℕ) : Type 0 where
  pub hints : List KeptClause
  pub are : hinted kept ids ≡ Some hints
  pub new : is_repeated kept clause ≡ false
  pub ends : course (map negation clause) hints ≡ ends_false
  pub ascends : are_ascending clause ≡ true
  pub greatest : greatest_level hints ≡ level

level_by-parts : (c : Course) (clause : List Lit) (hints : List KeptClause) (level : ℕ)
    → level_by c clause hints ≡ Ok level
    → (c ≡ ends_false) × (are_ascending clause ≡ true) × (greatest_level hints ≡ level)
level_by-parts ends_false clause hints level h = step (are_ascending clause) refl h
  where
    step : (b : Bool) → are_ascending clause ≡ b
        → (if b then Ok (greatest_level hints) else Err not_by_hints) ≡ Ok level
        → (ends_false ≡ ends_false) × (are_ascending clause ≡ true) × (greatest_level hints ≡ level)
    step true is h = (refl, is, Prim.cc (h))
    step false is h = absurd (Prim.cc (h))
level_by-parts stays_open clause hints level h = absurd (Prim.cc (h))
level_by-parts has_idle_hint clause hints level h = absurd (Prim.cc (h))

pub learned-parts : (kept : Kept) (clause : List Lit) (ids : List ℕ) (level : ℕ) → learned kept clause ids ≡ Ok level
    → IsLearned kept clause ids level
learned-parts kept clause ids level h = step (hinted kept ids) refl h
  where
    by : (b : Bool) (hints : List KeptClause) → hinted kept ids ≡ Some hints → is_repeated kept clause ≡ b
        → (if b then Err repeated_clause else level_by (course (map negation clause) hints) clause hints) ≡ Ok level
        → IsLearned kept clause ids level
    by true hints are new h = absurd (Prim.cc (h))
    by false hints are new h =
        let parts = level_by-parts (course (map negation clause) hints) clause hints level h in
        record {
          hints = hints;
          are = are;
          new = new;
          ends = parts.0;
          ascends = parts.1;
          greatest = parts.2;
        }

    step : (o : Option (List KeptClause)) → hinted kept ids ≡ o
        → (elim o as (λ _. Result ℕ Unlearned) [
          | None ↦ Err unknown_hint
          | Some hints ↦ if is_repeated kept clause then Err repeated_clause
              else level_by (course (map negation clause) hints) clause hints
        ]) ≡ Ok level → IsLearned kept clause ids level
    step None are h = absurd (Prim.cc (h))
    step (Some hints) are h = by (is_repeated kept clause) hints are refl h

-- The hints are the clauses that the numbers name.

pub record IsHinted (kept : Kept) (id : ℕ) (ids : List ℕ) (hints : List KeptClause) : Type 0 where
  pub first : KeptClause
  pub others : List KeptClause
  pub there : kept_at kept id ≡ Some first
  pub rest : hinted kept ids ≡ Some others
  pub all : hints ≡ first ∷ others

pub hinted-parts : (kept : Kept) (id : ℕ) (ids : List ℕ) (hints : List KeptClause) → hinted kept (id ∷ ids) ≡ Some hints
    → IsHinted kept id ids hints
hinted-parts kept id ids hints h = step (kept_at kept id) refl h
  where
    by : (first : KeptClause) (o : Option (List KeptClause)) → kept_at kept id ≡ Some first → hinted kept ids ≡ o
        → option_map (λ clauses. first ∷ clauses) o ≡ Some hints → IsHinted kept id ids hints
    by first None there rest h = absurd (Prim.cc (h))
    by first (Some others) there rest h =
        record { first = first; others = others; there = there; rest = rest; all = Prim.cc (h) }

    step : (o : Option KeptClause) → kept_at kept id ≡ o
        → (elim o as (λ _. Option (List KeptClause))
        [ None ↦ None | Some clause ↦ option_map (λ clauses. clause ∷ clauses) (hinted kept ids) ]) ≡ Some hints
        → IsHinted kept id ids hints
    step None there h = absurd (Prim.cc (h))
    step (Some first) there h = by first (hinted kept ids) there refl h

hinted-true : (holds : Lit → Bool) (kept : Kept) (ids : List ℕ) (hints : List KeptClause) → hinted kept ids ≡ Some hints
    → AreTrue holds kept ids → list_all (λ (c : KeptClause). list_any holds c.literals) hints ≡ true
hinted-true holds kept [] hints h are =
    let none : hints ≡ [] = Prim.cc (h) in
    ap (list_all (λ (c : KeptClause). list_any holds c.literals)) none
hinted-true holds kept (id ∷ ids) hints h are =
    let l = hinted-parts kept id ids hints h in
    ap (list_all (λ (c : KeptClause). list_any holds c.literals)) l.all
    ∙ and_from (list_any holds l.first.literals) (list_all (λ (c : KeptClause). list_any holds c.literals) l.others)
    (are id l.first (Contains-first id ids) l.there)
    (hinted-true holds kept ids l.others l.rest
    (λ other clause among there. are other clause (Contains-later id ids other among) there))

max-left : (a b : ℕ) → a ≤ max a b
max-left a b = omega arith

max-right : (n a b : ℕ) → n ≤ b → n ≤ max a b
max-right n a b low = omega (arith, low)

hinted-low : (kept : Kept) (ids : List ℕ) (hints : List KeptClause) → hinted kept ids ≡ Some hints
    → (id : ℕ) (hint : KeptClause) → Contains ids id → kept_at kept id ≡ Some hint → hint.level ≤ greatest_level hints
hinted-low kept [] hints h id hint among there = absurd (Contains-none id among)
hinted-low kept (first ∷ ids) hints h id hint among there =
    let l = hinted-parts kept first ids hints h in
    subst (λ hs. hint.level ≤ greatest_level hs) (sym l.all) (elim (Contains-cases first ids id among) [
      | inl here ↦
          let same : l.first ≡ hint = some_same (sym l.there ∙ ap (kept_at kept) here ∙ there) in
          subst (λ (c : KeptClause). c.level ≤ max l.first.level (greatest_level l.others)) same
          (max-left l.first.level (greatest_level l.others))
      | inr later ↦ max-right hint.level l.first.level (greatest_level l.others)
          (hinted-low kept ids l.others l.rest id hint later there)
    ])
  where
    some_same : {a b : KeptClause} → Some a ≡ Some b → a ≡ b
    some_same e = Prim.cc (e)

hinted-there : (kept : Kept) (ids : List ℕ) (hints : List KeptClause) → hinted kept ids ≡ Some hints → (id : ℕ)
    → Contains ids id → (hint : KeptClause) × (kept_at kept id ≡ Some hint)
hinted-there kept [] hints h id among = absurd (Contains-none id among)
hinted-there kept (first ∷ ids) hints h id among =
    let l = hinted-parts kept first ids hints h in
    elim (Contains-cases first ids id among) [
      | inl here ↦ (l.first, subst (λ n. kept_at kept n ≡ Some l.first) here l.there)
      | inr later ↦ hinted-there kept ids l.others l.rest id later
    ]

-- each hint names a kept clause
pub learned-hint : (kept : Kept) (clause : List Lit) (ids : List ℕ) (level : ℕ) → learned kept clause ids ≡ Ok level
    → (id : ℕ) → Contains ids id → (hint : KeptClause) × (kept_at kept id ≡ Some hint)
learned-hint kept clause ids level h id among =
    let l = learned-parts kept clause ids level h in hinted-there kept ids l.hints l.are id among

pub learned_levels : LearnedHasLevels
learned_levels kept clause ids level h id hint among there =
    let l = learned-parts kept clause ids level h in
    subst (λ n. hint.level ≤ n) l.greatest (hinted-low kept ids l.hints l.are id hint among there)

-- What a clause tells of a literal where some literals are held true, and some literal of the clause is true.
abbrev Tells : (Lit → Bool) → Finding → Type 0
Tells holds falsified = ⊥
Tells holds (forces l) = holds l ≡ true
Tells holds idle = Unit {0}

module _ (holds : Lit → Bool) where
  rest_tells : (held rest : List Lit) → list_any holds rest ≡ true → Tells holds (finding_of_rest held rest)
  rest_tells held [] any = false≢true any
  rest_tells held (l ∷ rest) any = step (is_open_under held l && list_all (is_same_literal l) rest) refl
    where
      first : list_all (is_same_literal l) rest ≡ true → holds l ≡ true
      first same = elim (or_cases (holds l) (list_any holds rest) any) [
        | inl here ↦ here
        | inr later ↦
            let found = both_pass (is_same_literal l) holds rest same later in
            ap holds (is_same_literal-true l found.0 found.1) ∙ found.2
      ]

      step : (b : Bool) → (is_open_under held l && list_all (is_same_literal l) rest) ≡ b
          → Tells holds (if b then forces l else idle)
      step true passes = first (and_parts (is_open_under held l) (list_all (is_same_literal l) rest) passes).1
      step false passes = tt

  module _ (signs : IsAssignment holds) where
    -- no true literal is false under what is held
    true_not_false : (held : List Lit) → list_all holds held ≡ true → (l : Lit) → holds l ≡ true
        → not (is_false_under held l) ≡ true
    true_not_false held all l true_so = not_from_false (is_false_under held l)
        (false_from_ne_true (is_false_under held l) (λ false_so.
        let other : holds (negation l) ≡ true = all_among holds held (negation l) all false_so in
        false≢true (sym (not-true (holds l) (sym (signs l) ∙ other)) ∙ true_so)))

    clause_tells : (held clause : List Lit) → list_all holds held ≡ true → list_any holds clause ≡ true
        → Tells holds (finding held clause)
    clause_tells held clause all any =
        rest_tells held (filter (λ l. not (is_false_under held l)) clause)
        (list_any-filter (λ l. not (is_false_under held l)) holds clause (true_not_false held all) any)

    course_no_end : (held : List Lit) (hints : List KeptClause) → list_all holds held ≡ true
        → list_all (λ (c : KeptClause). list_any holds c.literals) hints ≡ true → course held hints ≡ ends_false → ⊥
    course_no_end held [] all true_hints ends = Prim.cc (ends)
    course_no_end held (clause ∷ clauses) all true_hints ends =
        let both =
        and_parts (list_any holds clause.literals)
        (list_all (λ (c : KeptClause). list_any holds c.literals) clauses) true_hints in
        step (finding held clause.literals) (clause_tells held clause.literals all both.0)
        (λ l true_so. course_no_end (l ∷ held) clauses (and_from (holds l) (list_all holds held) true_so all) both.1)
        ends
      where
        step : (f : Finding) → Tells holds f
            → ((l : Lit) → holds l ≡ true → course (l ∷ held) clauses ≡ ends_false → ⊥)
            → (elim f as (λ _. Course) [
              | falsified ↦ elim clauses as (λ _. Course) [ [] ↦ ends_false | _ ∷ _ ↦ has_idle_hint ]
              | forces l ↦ course (l ∷ held) clauses
              | idle ↦ has_idle_hint
            ]) ≡ ends_false → ⊥
        step falsified tells rest ends = tells
        step (forces l) tells rest ends = rest l tells ends
        step idle tells rest ends = Prim.cc (ends)

    -- where no literal of a clause is true, their negations are
    negations_true : (clause : List Lit) → list_any holds clause ≡ false
        → list_all holds (map negation clause) ≡ true
    negations_true [] none = refl
    negations_true (l ∷ ls) none =
        let both = or_parts (holds l) (list_any holds ls) none in
        and_from (holds (negation l)) (list_all holds (map negation ls))
        (signs l ∙ not_from_false (holds l) both.0) (negations_true ls both.1)

pub learned_true : LearnedHolds
learned_true holds signs kept clause ids level h are =
    let l = learned-parts kept clause ids level h in
    true_from_ne_false (list_any holds clause) (λ none.
    course_no_end holds signs (map negation clause) l.hints (negations_true holds signs clause none)
    (hinted-true holds kept ids l.hints l.are are) l.ends)
