-- Literals in order.
use Rattle.std.proofs.Common.{◌≡◌, ℕ, true, not, ◌&&◌, List, [], ◌∷◌, ◌++◌, length, map, Vec, Global, vec_len, refl, ap, ◌∙◌, arith, rules}
use Rattle.std.specs.Cmp.{IsTotalOrder}
use Rattle.std.specs.Cmp.Rules.{comparing}
use Rattle.std.specs.declared.cmp.Ordering.{Ordering}
use Rattle.std.specs.declared.cmp.Ordering.TheVariants.{Less, Equal, Greater}
use Rattle.std.specs.Ordering.{is_lt, is_gt, match_ordering, ordering_reverse}
use Rattle.std.proofs.lemmas.Bool.{and_parts, and_from}
use Rattle.sb_lit.specs.declared.clause.Lit.{Lit}
use Rattle.sb_lit.specs.Clauses.{literal_order, are_ascending, negation}
use Rattle.sb_rulebook.specs.Translation.{with_literal, in_order}
use Rattle.sb_atoms.specs.Growing.{is_below, are_below}

pub total : IsTotalOrder literal_order
total = search (comparing, rules)

-- The set of literals.

-- the set with the literals, from the last to the first
abbrev pub onto : List Lit → List Lit → List Lit
onto [] set = set
onto (l ∷ ls) set = with_literal l (onto ls set)

pub onto_nothing : (ls : List Lit) → onto ls [] ≡ in_order ls
onto_nothing [] = refl
onto_nothing (l ∷ ls) = ap (with_literal l) (onto_nothing ls)

pub onto_none : (left : Vec Lit Global) (set : List Lit) → vec_len left ≡ 0 → set ≡ onto left.items set
onto_none left set h = step left.items (omega (arith, left.ok.0, h))
  where
    step : (ls : List Lit) → length ls ≡ 0 → set ≡ onto ls set
    step [] e = refl
    step (l ∷ ls) e = absurd (omega (arith, e))

pub onto_last : (ls set : List Lit) (l : Lit) → onto (ls ++ l ∷ []) set ≡ onto ls (with_literal l set)
onto_last [] set l = refl
onto_last (m ∷ ls) set l = ap (with_literal m) (onto_last ls set l)

-- where the literal is put, by its order to the first one
abbrev by_order : Ordering → Lit → Lit → List Lit → List Lit
by_order o l m ms = match_ordering o (l ∷ m ∷ ms) (m ∷ ms) (m ∷ with_literal l ms)

-- Below a number.

pub below_with : (n : ℕ) (l : Lit) (ls : List Lit) → is_below n l ≡ true → are_below n ls ≡ true
    → are_below n (with_literal l ls) ≡ true
below_with n l [] p q = and_from (is_below n l) true p refl
below_with n l (m ∷ ms) p q =
    step (literal_order l m) (and_parts (is_below n m) (are_below n ms) q).0
    (below_with n l ms p (and_parts (is_below n m) (are_below n ms) q).1)
  where
    step : (o : Ordering) → is_below n m ≡ true → are_below n (with_literal l ms) ≡ true
        → are_below n (by_order o l m ms) ≡ true
    step Less here rest = and_from (is_below n l) (are_below n (m ∷ ms)) p q
    step Equal here rest = q
    step Greater here rest = and_from (is_below n m) (are_below n (with_literal l ms)) here rest

pub below_in_order : (n : ℕ) (ls : List Lit) → are_below n ls ≡ true → are_below n (in_order ls) ≡ true
below_in_order n [] h = refl
below_in_order n (l ∷ ls) h =
    let parts = and_parts (is_below n l) (are_below n ls) h in
    below_with n l (in_order ls) parts.0 (below_in_order n ls parts.1)

pub below_negations : (n : ℕ) (ls : List Lit) → are_below n (map negation ls) ≡ are_below n ls
below_negations n [] = refl
below_negations n (l ∷ ls) = ap (λ b. is_below n l && b) (below_negations n ls)

-- Ascending.

turned : (l m : Lit) → literal_order l m ≡ Greater → literal_order m l ≡ Less
turned l m e = total.antisymm m l ∙ ap ordering_reverse e

pub not_greater : (l m : Lit) → literal_order l m ≡ Greater → not (is_gt (literal_order m l)) ≡ true
not_greater l m e = ap (λ o. not (is_gt o)) (turned l m e)

below_both : (l m : Lit) (ms : List Lit) → is_lt (literal_order l m) ≡ true → are_ascending (m ∷ ms) ≡ true
    → are_ascending (l ∷ m ∷ ms) ≡ true
below_both l m ms p q = and_from (is_lt (literal_order l m)) (are_ascending (m ∷ ms)) p q

-- a first one before the literal, and before the others, stays so
behind_first : (m l : Lit) (ms : List Lit) → is_lt (literal_order m l) ≡ true → are_ascending (m ∷ ms) ≡ true
    → are_ascending (m ∷ with_literal l ms) ≡ true
behind_first m l [] p q = below_both m l [] p refl
behind_first m l (k ∷ ms) p q =
    step (literal_order l k) refl (and_parts (is_lt (literal_order m k)) (are_ascending (k ∷ ms)) q).0
    (and_parts (is_lt (literal_order m k)) (are_ascending (k ∷ ms)) q).1
    (λ first. behind_first k l ms first (and_parts (is_lt (literal_order m k)) (are_ascending (k ∷ ms)) q).1)
  where
    step : (o : Ordering) → literal_order l k ≡ o → is_lt (literal_order m k) ≡ true
        → are_ascending (k ∷ ms) ≡ true
        → (is_lt (literal_order k l) ≡ true → are_ascending (k ∷ with_literal l ms) ≡ true)
        → are_ascending (m ∷ by_order o l k ms) ≡ true
    step Less e here rest behind = below_both m l (k ∷ ms) p (below_both l k ms (ap is_lt e) rest)
    step Equal e here rest behind = q
    step Greater e here rest behind = below_both m k (with_literal l ms) here (behind (ap is_lt (turned l k e)))

with_ascending : (l : Lit) (ls : List Lit) → are_ascending ls ≡ true → are_ascending (with_literal l ls) ≡ true
with_ascending l [] h = refl
with_ascending l (m ∷ ms) h = step (literal_order l m) refl
  where
    step : (o : Ordering) → literal_order l m ≡ o → are_ascending (by_order o l m ms) ≡ true
    step Less e = below_both l m ms (ap is_lt e) h
    step Equal e = h
    step Greater e = behind_first m l ms (ap is_lt (turned l m e)) h

pub order_ascends : (ls : List Lit) → are_ascending (in_order ls) ≡ true
order_ascends [] = refl
order_ascends (l ∷ ls) = with_ascending l (in_order ls) (order_ascends ls)
