-- What connectives make of truths, one by one.
use Rattle.std.proofs.Common.{◌≡◌, ℕ, ◌+◌, ◌-◌, ◌<◌, ◌≤◌, Bool, true, false, not, ◌&&◌, ◌==◌, List, [], ◌∷◌, length, take, drop, get_or, refl, sym, ap, ◌∙◌, arith}
use Rattle.std.specs.Prelude.{◌||◌}
use Rattle.std.proofs.Math.Bool.{beq}
use Rattle.std.proofs.lemmas.Bool.{false≢true}
use Rattle.std.proofs.lemmas.List.{at_drop_more, drop_all, take_all}
use Rattle.sb_meaning.specs.Truth.{all_true, some_true, implied, differs, xor_from, xor_of, is_chain, are_pairs}
use Rattle.sb_atoms.specs.Truths.{is_same}

one_back : (left : ℕ) → 0 < left → left ≡ (left - 1) + 1
one_back left pos = omega (arith, pos)

and_turned : (a b : Bool) → (b && a) ≡ (a && b)
and_turned true true = refl
and_turned true false = refl
and_turned false true = refl
and_turned false false = refl

or_turned : (a b : Bool) → (b || a) ≡ (a || b)
or_turned true true = refl
or_turned true false = refl
or_turned false true = refl
or_turned false false = refl

pub all_more : (xs : List Bool) (left : ℕ) (all : Bool) → 0 < left
    → (left ≤ length xs) × (all ≡ all_true (drop left xs))
    → (left - 1 ≤ length xs) × ((all && get_or xs (left - 1) false) ≡ all_true (drop (left - 1) xs))
all_more xs left all pos h = (
  omega (arith, h.0),
  and_turned (get_or xs (left - 1) false) all
      ∙ ap (λ b. get_or xs (left - 1) false && b) (h.1 ∙ ap (λ k. all_true (drop k xs)) (one_back left pos))
      ∙ sym (at_drop_more all_true xs (left - 1) false (omega (arith, h.0, pos))),
)

pub some_more : (xs : List Bool) (left : ℕ) (some : Bool) → 0 < left
    → (left ≤ length xs) × (some ≡ some_true (drop left xs))
    → (left - 1 ≤ length xs) × ((some || get_or xs (left - 1) false) ≡ some_true (drop (left - 1) xs))
some_more xs left some pos h = (
  omega (arith, h.0),
  or_turned (get_or xs (left - 1) false) some
      ∙ ap (λ b. get_or xs (left - 1) false || b) (h.1 ∙ ap (λ k. some_true (drop k xs)) (one_back left pos))
      ∙ sym (at_drop_more some_true xs (left - 1) false (omega (arith, h.0, pos))),
)

-- Implication.

pub some_there : (xs : List Bool) → false ≡ (length xs == 0) → 0 < length xs
some_there [] e = absurd (false≢true e)
some_there (x ∷ xs) e = omega arith

pub implied_last : (xs : List Bool) → 0 < length xs
    → (length xs - 1 < length xs) × (get_or xs (length xs - 1) false ≡ implied (drop (length xs - 1) xs))
implied_last xs pos =
    let i = length xs - 1 in
    let none : drop (i + 1) xs ≡ [] = drop_all (i + 1) xs (omega (arith, pos)) in (
      omega (arith, pos),
      sym (at_drop_more implied xs i false (omega (arith, pos)) ∙ ap (λ ys. implied (get_or xs i false ∷ ys)) none),
    )

pub implied_more : (xs : List Bool) (left : ℕ) (behind : Bool) → 0 < left
    → (left < length xs) × (behind ≡ implied (drop left xs))
    → (left - 1 < length xs) × ((behind || not (get_or xs (left - 1) false)) ≡ implied (drop (left - 1) xs))
implied_more xs left behind pos h =
    let i = left - 1 in
    let x = get_or xs i false in
    let y = get_or xs left false in (
      omega (arith, h.0),
      or_turned (not x) behind
          ∙ ap (λ b. not x || b) (h.1 ∙ at_drop_more implied xs left false h.0)
          ∙ sym (ap (λ ys. implied (x ∷ ys)) (ap (λ k. drop k xs) (sym (one_back left pos)))
          ∙ at_drop_more (λ ys. implied (x ∷ ys)) xs left false h.0)
          ∙ sym (at_drop_more implied xs i false (omega (arith, h.0, pos))),
    )

pub implied_end : (xs : List Bool) (left : ℕ) (behind : Bool) → left ≤ 0
    → (left < length xs) × (behind ≡ implied (drop left xs)) → behind ≡ implied xs
implied_end xs left behind done h = h.1 ∙ ap (λ k. implied (drop k xs)) (none left done)
  where
    none : (k : ℕ) → k ≤ 0 → k ≡ 0
    none k l = omega (arith, l)

-- Exclusive or.

rest_of : (x : Bool) (xs : List Bool) → take (length (x ∷ xs) - 1) (drop 1 (x ∷ xs)) ≡ xs
rest_of x xs = take_all (length (x ∷ xs) - 1) xs (omega arith)

pub odd_start : (xs : List Bool) → 1 ≤ length xs
    → xor_from (get_or xs 0 false) (drop 0 (take (length xs - 1) (drop 1 xs))) ≡ xor_of xs
odd_start [] some = absurd (omega (arith, some))
odd_start (x ∷ xs) some = ap (xor_from x) (rest_of x xs)

differ_is : (a b : Bool) → not (beq a b) ≡ differs a b
differ_is true true = refl
differ_is true false = refl
differ_is false true = refl
differ_is false false = refl

pub odd_more : (others xs : List Bool) (odd : Bool) (i : ℕ) → i < length others
    → xor_from odd (drop i others) ≡ xor_of xs
    → xor_from (not (beq odd (get_or others i false))) (drop (i + 1) others) ≡ xor_of xs
odd_more others xs odd i within h =
    ap (λ b. xor_from b (drop (i + 1) others)) (differ_is odd (get_or others i false))
    ∙ sym (at_drop_more (xor_from odd) others i false within)
    ∙ h

pub odd_end : (others xs : List Bool) (odd : Bool) (i : ℕ) → length others ≤ i
    → xor_from odd (drop i others) ≡ xor_of xs → odd ≡ xor_of xs
odd_end others xs odd i done h = sym (ap (xor_from odd) (drop_all i others done)) ∙ h

-- Comparisons.

same_is : (a b : Bool) → not (beq a b) ≡ false → is_same a b ≡ true
same_is true true h = refl
same_is true false h = absurd (false≢true (sym h))
same_is false true h = absurd (false≢true (sym h))
same_is false false h = refl

other_is : (a b : Bool) → not (beq a b) ≡ true → is_same a b ≡ false
other_is true true h = absurd (false≢true h)
other_is true false h = refl
other_is false true h = refl
other_is false false h = absurd (false≢true h)

pub chain_more : (left xs : List Bool) → 2 ≤ length left
    → not (beq (get_or left 0 false) (get_or left 1 false)) ≡ false → is_chain is_same left ≡ is_chain is_same xs
    → is_chain is_same (take (length left - 1) (drop 1 left)) ≡ is_chain is_same xs
chain_more [] xs two same h = absurd (omega (arith, two))
chain_more (a ∷ []) xs two same h = absurd (omega (arith, two))
chain_more (a ∷ b ∷ left) xs two same h =
    ap (is_chain is_same) (rest_of a (b ∷ left))
    ∙ ap (λ c. c && is_chain is_same (b ∷ left)) (sym (same_is a b same))
    ∙ h

pub chain_stop : (left xs : List Bool) → 2 ≤ length left
    → not (beq (get_or left 0 false) (get_or left 1 false)) ≡ true → is_chain is_same left ≡ is_chain is_same xs
    → false ≡ is_chain is_same xs
chain_stop [] xs two other h = absurd (omega (arith, two))
chain_stop (a ∷ []) xs two other h = absurd (omega (arith, two))
chain_stop (a ∷ b ∷ left) xs two other h =
    sym (ap (λ c. c && is_chain is_same (b ∷ left)) (other_is a b other)) ∙ h

pub chain_end : (left xs : List Bool) → length left < 2 → is_chain is_same left ≡ is_chain is_same xs
    → true ≡ is_chain is_same xs
chain_end [] xs few h = h
chain_end (a ∷ []) xs few h = h
chain_end (a ∷ b ∷ left) xs few h = absurd (omega (arith, few))

pub few_differ : (xs : List Bool) → length xs < 2 → true ≡ are_pairs differs xs
few_differ [] few = refl
few_differ (a ∷ []) few = refl
few_differ (a ∷ b ∷ xs) few = absurd (omega (arith, few))

three_differ : (a b c d e f : Bool)
    → ((differs a b && (differs a c && d)) && ((differs b c && e) && f)) ≡ false
three_differ true true c d e f = refl
three_differ true false true d e f = refl
three_differ true false false d e f = last d
  where
    last : (g : Bool) → ((g) && false) ≡ false
    last true = refl
    last false = refl
three_differ false false c d e f = refl
three_differ false true false d e f = refl
three_differ false true true d e f = last d
  where
    last : (g : Bool) → ((g) && false) ≡ false
    last true = refl
    last false = refl

pub many_differ : (xs : List Bool) → 3 ≤ length xs → false ≡ are_pairs differs xs
many_differ [] many = absurd (omega (arith, many))
many_differ (a ∷ []) many = absurd (omega (arith, many))
many_differ (a ∷ b ∷ []) many = absurd (omega (arith, many))
many_differ (a ∷ b ∷ c ∷ xs) many = sym (three_differ a b c _ _ _)
