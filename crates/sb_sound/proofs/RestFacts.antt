-- What a clause rests on, where clauses are put together, and where that is true.
use Rattle.std.proofs.Common.{◌≡◌, ℕ, ◌<◌, ◌≤◌, Bool, true, false, nat_lt, nat_eq, List, [], ◌∷◌, ◌++◌, length, slice_get, Option, Some, unwrap_or, refl, ap, sym, subst, ◌⊎◌, inl, inr}
use Rattle.std.specs.List.{Contains}
use Rattle.std.proofs.lemmas.Bool.{eqb-true}
use Rattle.sb_meaning.specs.Terms.{Term}
use Rattle.sb_meaning.specs.Values.{Valuation}
use Rattle.sb_rulebook.specs.Kept.{AllKept, Asked, rests_of, rests_of_any, with_number, with_numbers}
use Rattle.sb_rulebook.proofs.CallerLemmas.{by_order}
use Rattle.sb_sound.specs.SoundLaws.{LevelsHold, PlacesHold, StandsAt}
use Rattle.sb_sound.proofs.PassFacts.{Contains-cases, Contains-first, Contains-later, Contains-none}
use Rattle.sb_sound.proofs.Accepting.{slice_get-front, Contains-slice_get}

module _ (n p : ℕ) where
  number-new : (ms : List ℕ) → Contains (with_number n ms) n
  number-new [] = Contains-first n []
  number-new (m ∷ ms) = step (nat_lt n m) (nat_eq n m) refl (number-new ms)
    where
      step : (b d : Bool) → nat_eq n m ≡ d → Contains (with_number n ms) n
          → Contains (by_order b d (n ∷ m ∷ ms) (m ∷ ms) (m ∷ with_number n ms)) n
      step true d is rest = Contains-first n (m ∷ ms)
      step false true is rest = subst (λ k. Contains (m ∷ ms) k) (sym (eqb-true n m is)) (Contains-first m ms)
      step false false is rest = Contains-later m (with_number n ms) n rest

  number-old : (ms : List ℕ) → Contains ms p → Contains (with_number n ms) p
  number-old [] h = absurd (Contains-none p h)
  number-old (m ∷ ms) h = step (nat_lt n m) (nat_eq n m) (Contains-cases m ms p h) (number-old ms)
    where
      later : (m ≡ p) ⊎ Contains ms p → (Contains ms p → Contains (with_number n ms) p)
          → Contains (m ∷ with_number n ms) p
      later (inl here) rest = subst (λ k. Contains (m ∷ with_number n ms) k) here (Contains-first m (with_number n ms))
      later (inr there) rest = Contains-later m (with_number n ms) p (rest there)

      step : (b d : Bool) → (m ≡ p) ⊎ Contains ms p → (Contains ms p → Contains (with_number n ms) p)
          → Contains (by_order b d (n ∷ m ∷ ms) (m ∷ ms) (m ∷ with_number n ms)) p
      step true d where_it_is rest = Contains-later n (m ∷ ms) p h
      step false true where_it_is rest = h
      step false false where_it_is rest = later where_it_is rest

  number-cases : (ms : List ℕ) → Contains (with_number n ms) p → (n ≡ p) ⊎ Contains ms p
  number-cases [] h = Contains-cases n [] p h
  number-cases (m ∷ ms) h = step (nat_lt n m) (nat_eq n m) h (number-cases ms)
    where
      later : (m ≡ p) ⊎ Contains (with_number n ms) p
          → (Contains (with_number n ms) p → (n ≡ p) ⊎ Contains ms p) → (n ≡ p) ⊎ Contains (m ∷ ms) p
      later (inl here) rest = inr (subst (λ k. Contains (m ∷ ms) k) here (Contains-first m ms))
      later (inr there) rest = elim (rest there) as (λ _. (n ≡ p) ⊎ Contains (m ∷ ms) p)
          [ inl new ↦ inl new | inr old ↦ inr (Contains-later m ms p old) ]

      step : (b d : Bool) → Contains (by_order b d (n ∷ m ∷ ms) (m ∷ ms) (m ∷ with_number n ms)) p
          → (Contains (with_number n ms) p → (n ≡ p) ⊎ Contains ms p) → (n ≡ p) ⊎ Contains (m ∷ ms) p
      step true d h rest = Contains-cases n (m ∷ ms) p h
      step false true h rest = inr h
      step false false h rest = later (Contains-cases m (with_number n ms) p h) rest

numbers-left : (ns ms : List ℕ) (p : ℕ) → Contains ns p → Contains (with_numbers ns ms) p
numbers-left [] ms p h = absurd (Contains-none p h)
numbers-left (n ∷ ns) ms p h = elim (Contains-cases n ns p h) [
  | inl here ↦ subst (λ k. Contains (with_number n (with_numbers ns ms)) k) here (number-new n n (with_numbers ns ms))
  | inr later ↦ number-old n p (with_numbers ns ms) (numbers-left ns ms p later)
]

numbers-right : (ns ms : List ℕ) (p : ℕ) → Contains ms p → Contains (with_numbers ns ms) p
numbers-right [] ms p h = h
numbers-right (n ∷ ns) ms p h = number-old n p (with_numbers ns ms) (numbers-right ns ms p h)

numbers-cases : (ns ms : List ℕ) (p : ℕ) → Contains (with_numbers ns ms) p → Contains ns p ⊎ Contains ms p
numbers-cases [] ms p h = inr h
numbers-cases (n ∷ ns) ms p h = elim (number-cases n p (with_numbers ns ms) h) as
    (λ _. Contains (n ∷ ns) p ⊎ Contains ms p) [
      | inl here ↦ inl (subst (λ k. Contains (n ∷ ns) k) here (Contains-first n ns))
      | inr others ↦ elim (numbers-cases ns ms p others) as (λ _. Contains (n ∷ ns) p ⊎ Contains ms p)
          [ inl left ↦ inl (Contains-later n ns p left) | inr right ↦ inr right ]
    ]

-- what one of the clauses rests on
pub any-of_one : (kept : AllKept) (ids : List ℕ) (id place : ℕ) → Contains ids id → Contains (rests_of kept id) place
    → Contains (rests_of_any kept ids) place
any-of_one kept [] id place among h = absurd (Contains-none id among)
any-of_one kept (n ∷ ids) id place among h = elim (Contains-cases n ids id among) [
  | inl here ↦ numbers-left (rests_of kept n) (rests_of_any kept ids) place
      (subst (λ k. Contains (rests_of kept k) place) (sym here) h)
  | inr later ↦ numbers-right (rests_of kept n) (rests_of_any kept ids) place (any-of_one kept ids id place later h)
]

pub record RestsOnOne (kept : AllKept) (ids : List ℕ) (place : ℕ) : Type 0 where
  pub clause : ℕ
  pub among : Contains ids clause
  pub rests : Contains (rests_of kept clause) place

pub one-of_any : (kept : AllKept) (ids : List ℕ) (place : ℕ) → Contains (rests_of_any kept ids) place
    → RestsOnOne kept ids place
one-of_any kept [] place h = absurd (Contains-none place h)
one-of_any kept (n ∷ ids) place h = elim (numbers-cases (rests_of kept n) (rests_of_any kept ids) place h) [
  | inl here ↦ record { clause = n; among = Contains-first n ids; rests = here }
  | inr others ↦
      let l = one-of_any kept ids place others in
      record { clause = l.clause; among = Contains-later n ids l.clause l.among; rests = l.rests }
]

-- Where the assertions are that it rests on.

-- live assertions of levels up to this one stand at the places
abbrev pub StandAt : Asked → ℕ → List ℕ → Type 0
StandAt asked level rests = (place : ℕ) → Contains rests place → StandsAt asked.live level place

-- where the live assertions up to the level are true, those at the places are
pub levels_places : (asked : Asked) (level : ℕ) (rests : List ℕ) → StandAt asked level rests → (v : Valuation)
    → LevelsHold v asked.live level → PlacesHold v asked.live rests
levels_places asked level rests stand v hold place a t among there is =
    let s = stand place among in
    let same : s.assertion ≡ a = Prim.cc (s.there, there) in
    hold a t (Contains-slice_get asked.live place a there) is
    (subst (λ (b : Option Term × ℕ). b.1 ≤ level) same s.low)

-- With what one more clause rests on.

pub rests-before : (rests : List (List ℕ)) (new : List ℕ) (id : ℕ) → id < length rests
    → unwrap_or (slice_get (rests ++ new ∷ []) id) [] ≡ unwrap_or (slice_get rests id) []
rests-before rests new id low = ap (λ o. unwrap_or o []) (slice_get-front rests (new ∷ []) id low)

slice_get-last : {X : Type 0} → (xs : List X) (y : X) → slice_get (xs ++ y ∷ []) (length xs) ≡ Some y
slice_get-last [] y = refl
slice_get-last (x ∷ xs) y = slice_get-last xs y

pub rests-last : (rests : List (List ℕ)) (new : List ℕ) (id : ℕ) → id ≡ length rests
    → unwrap_or (slice_get (rests ++ new ∷ []) id) [] ≡ new
rests-last rests new id last =
    rw last (ap (λ o. unwrap_or o []) (slice_get-last rests new))
