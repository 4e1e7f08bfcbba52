-- What the loops over the numbers of a line keep.
use Rattle.std.proofs.Common.{◌≡◌, ℕ, zero, suc, ◌+◌, ◌<◌, ◌≤◌, Bool, true, false, ◌||◌, ◌==◌, nat_eq, nat_lt, if◌then◌else◌, List, [], ◌∷◌, ◌++◌, length, map, drop, get_or, Option, Some, None, option_map, refl, sym, ap, ap₂, subst, ◌∙◌, arith, append_assoc, length-append}
use Rattle.std.specs.List.{list_all, list_any}
use Rattle.std.proofs.lemmas.Bool.{false≢true}
use Rattle.std.proofs.lemmas.Bool.Decides.{nat_tests}
use Rattle.std.proofs.lemmas.List.{append-nil, at_drop_more, at_drop_all, length-set}
use Rattle.std.proofs.lemmas.List.Folds.{list_any-append, list_all_at}
use Rattle.indexmap.specs.IndexSet.{IndexSet, insert_key}
use Rattle.sb_rulebook.specs.Parts.{together}
use Rattle.sb_rulebook.specs.Kept.{is_among_numbers, marked}
use Rattle.sb_rules.specs.Burying.{AreMembers, is_dead_by, has_twice}

lt-is : (n m : ℕ) → nat_lt n m ≡ true → n < m
lt-is n m h = grind (arith, nat_tests)

not-false : (b : Bool) → (b ≡ false → ⊥) → b ≡ true
not-false true h = refl
not-false false h = absurd (h refl)

pub or-right : (a b : Bool) → b ≡ true → (a || b) ≡ true
or-right true b h = refl
or-right false b h = h

-- each number is below a bound
pub number-within : (ns : List ℕ) (m p : ℕ) → list_all (λ n. nat_lt n m) ns ≡ true → p < length ns → get_or ns p 0 < m
number-within ns m p h l =
    lt-is (get_or ns p 0) m
    (not-false (nat_lt (get_or ns p 0) m)
    (λ e. false≢true (sym (list_all_at (λ n. nat_lt n m) ns p 0 l e) ∙ h)))

-- Marks, from the last number on.

pub marked-long : (ns : List ℕ) (dead : List Bool) → length (marked ns dead) ≡ length dead
marked-long [] dead = refl
marked-long (n ∷ ns) dead = length-set (marked ns dead) n true ∙ marked-long ns dead

-- The set of the members, from the last number on.

same-way : (n m : ℕ) → (n == m) ≡ nat_eq m n
same-way n m = grind (arith, nat_tests)

module _ (dead : List Bool) where
  abbrev pub Gathered : List ℕ → List ℕ → Type 0
  Gathered left keys =
      (has_twice dead left ≡ false) × ((n : ℕ) → list_any (nat_eq n) keys ≡ is_among_numbers left n)

  gathered-cons : (left keys : List ℕ) (n : ℕ) → Gathered left keys → is_dead_by dead n ≡ false
      → list_any (nat_eq n) keys ≡ false → Gathered (n ∷ left) (keys ++ n ∷ [])
  gathered-cons left keys n h alive new = (
    ap₂ (λ a b. a || b) (sym (h.1 n) ∙ new) (ap₂ (λ a b. a || b) alive h.0),
    λ m. list_any-append (nat_eq m) keys (n ∷ []) ∙ ap₂ (λ a b. a || (b || false)) (h.1 m) (sym (same-way n m))
        ∙ swapped (is_among_numbers left m) (n == m),
  )
    where
      swapped : (a b : Bool) → (a || (b || false)) ≡ (b || a)
      swapped true true = refl
      swapped true false = refl
      swapped false true = refl
      swapped false false = refl

  pub gathered-more : (ns keys : List ℕ) (place p : ℕ) → place ≡ suc p → p < length ns
      → Gathered (drop place ns) keys → is_dead_by dead (get_or ns p 0) ≡ false
      → list_any (nat_eq (get_or ns p 0)) keys ≡ false → Gathered (drop p ns) (keys ++ get_or ns p 0 ∷ [])
  gathered-more ns keys place p e l h alive new =
      let s : place ≡ p + 1 = omega arith in
      let h1 = subst (λ k. Gathered (drop k ns) keys) s h in
      let g = gathered-cons (drop (p + 1) ns) keys (get_or ns p 0) h1 alive new in (
        at_drop_more (has_twice dead) ns p 0 l ∙ g.0,
        λ m. g.1 m ∙ sym (at_drop_more (λ ms. is_among_numbers ms m) ns p 0 l),
      )

  or-last : (a b c : Bool) → c ≡ true → (a || (b || c)) ≡ true
  or-last true b c h = refl
  or-last false true c h = refl
  or-last false false c h = h

  twice-behind : (ns : List ℕ) (p : ℕ) → has_twice dead (drop p ns) ≡ true → has_twice dead ns ≡ true
  twice-behind [] zero h = h
  twice-behind [] (suc p) h = h
  twice-behind (n ∷ ns) zero h = h
  twice-behind (n ∷ ns) (suc p) h =
      or-last (is_among_numbers ns n) (is_dead_by dead n) (has_twice dead ns) (twice-behind ns p h)

  -- a number that is dead, or among those behind it
  pub gathered-twice : (ns keys : List ℕ) (place p : ℕ) → place ≡ suc p → p < length ns
      → Gathered (drop place ns) keys
      → (is_dead_by dead (get_or ns p 0) || list_any (nat_eq (get_or ns p 0)) keys) ≡ true
      → has_twice dead ns ≡ true
  gathered-twice ns keys place p e l h is =
      let s : place ≡ p + 1 = omega arith in
      let h1 = subst (λ k. Gathered (drop k ns) keys) s h in
      twice-behind ns p
      (at_drop_more (has_twice dead) ns p 0 l
      ∙ swapped (is_among_numbers (drop (p + 1) ns) (get_or ns p 0)) (is_dead_by dead (get_or ns p 0))
      (has_twice dead (drop (p + 1) ns))
      (ap (λ a. is_dead_by dead (get_or ns p 0) || a) (sym (h1.1 (get_or ns p 0))) ∙ is))
    where
      swapped : (a b c : Bool) → (b || a) ≡ true → (a || (b || c)) ≡ true
      swapped true b c h = refl
      swapped false true c h = refl
      swapped false false c h = absurd (false≢true h)

-- what was found of the members
module _ {S : Type 0} (dead : List Bool) (ns : List ℕ) where
  pub members-none : (found : Option (IndexSet ℕ S)) → found ≡ None → AreMembers dead ns found
      → has_twice dead ns ≡ true
  members-none found is h = subst (λ (o : Option (IndexSet ℕ S)). AreMembers dead ns o) is h

  pub members-some : (found : Option (IndexSet ℕ S)) (members : IndexSet ℕ S) → found ≡ Some members
      → AreMembers dead ns found → AreMembers dead ns (Some members)
  members-some found members is h = subst (λ (o : Option (IndexSet ℕ S)). AreMembers dead ns o) is h

-- Look-ups one after the other.

module _ (f : ℕ → Option ℕ) where
  abbrev pub Found : List ℕ → List ℕ → List ℕ → Type 0
  Found ns ids left = option_map (λ js. ids ++ js) (together (map f left)) ≡ together (map f ns)

  found-cons : (ns ids left : List ℕ) (n id : ℕ) → f n ≡ Some id → Found ns ids (n ∷ left)
      → Found ns (ids ++ id ∷ []) left
  found-cons ns ids left n id e h =
      step (together (map f left)) ∙ ap (λ o. option_map (λ js. ids ++ js) (together (o ∷ map f left))) (sym e) ∙ h
    where
      step : (o : Option (List ℕ)) → option_map (λ js. (ids ++ id ∷ []) ++ js) o
          ≡ option_map (λ js. ids ++ js) (option_map (λ js. id ∷ js) o)
      step None = refl
      step (Some js) = ap Some (append_assoc ids (id ∷ []) js)

  pub found-none-yet : (ns : List ℕ) → Found ns [] ns
  found-none-yet ns = step (together (map f ns))
    where
      step : (o : Option (List ℕ)) → option_map (λ js. [] ++ js) o ≡ o
      step None = refl
      step (Some js) = refl

  pub found-more : (ns ids : List ℕ) (i id : ℕ) → i < length ns → f (get_or ns i 0) ≡ Some id
      → Found ns ids (drop i ns) → Found ns (ids ++ id ∷ []) (drop (i + 1) ns)
  found-more ns ids i id l e h =
      found-cons ns ids (drop (i + 1) ns) (get_or ns i 0) id e
      (sym (at_drop_more (λ left. option_map (λ js. ids ++ js) (together (map f left))) ns i 0 l) ∙ h)

  pub found-lacks : (ns ids : List ℕ) (i : ℕ) → i < length ns → f (get_or ns i 0) ≡ None
      → Found ns ids (drop i ns) → None ≡ together (map f ns)
  found-lacks ns ids i l e h =
      ap (λ o. option_map (λ js. ids ++ js) (together (o ∷ map f (drop (i + 1) ns)))) (sym e)
      ∙ sym (at_drop_more (λ left. option_map (λ js. ids ++ js) (together (map f left))) ns i 0 l) ∙ h

  pub found-all : (ns ids : List ℕ) (i : ℕ) → length ns ≤ i → Found ns ids (drop i ns) → Some ids ≡ together (map f ns)
  found-all ns ids i l h =
      ap Some (sym (append-nil ids))
      ∙ sym (at_drop_all (λ left. option_map (λ js. ids ++ js) (together (map f left))) ns i l) ∙ h

-- One more everywhere.

pub one-more : {A : Type 0} (order new : List ℕ) (id : ℕ) (xs ys : List A) (y : A) → length xs ≡ length order
    → list_any (nat_eq id) order ≡ false → new ≡ insert_key nat_eq order id → ys ≡ xs ++ y ∷ []
    → length ys ≡ length new
one-more order new id xs ys y same none inserted pushed =
    let more = inserted ∙ ap (λ b. if b then order else order ++ id ∷ []) none in
    omega
    (arith, same, ap length pushed, length-append xs (y ∷ []), ap length more, length-append order (id ∷ []))
