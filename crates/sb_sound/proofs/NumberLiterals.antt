-- Bounds of Int terms, and equalities of them: the literal is true exactly where the numbers are so.
use Rattle.std.proofs.Common.{◌≡◌, Bool, true, false, not, cond, ◌&&◌, if◌then◌else◌, List, [], ◌∷◌, Some, refl, sym, ap, ap₂, ◌∙◌, arith}
use Rattle.std.specs.Prelude.{ℤ, pos, negsuc, ◌+ℤ◌, ◌-ℤ◌, ◌*ℤ◌, neg_ℤ, int_le, int_lt, option_and_then}
use Rattle.std.specs.List.{list_all}
use Rattle.std.specs.Ordering.{int_cmp, is_lt, is_eq}
use Rattle.std.specs.declared.cmp.Ordering.TheVariants.{Less, Equal, Greater}
use Rattle.std.proofs.lemmas.Int.{ints}
use Rattle.std.proofs.lemmas.Option.{option_and_then_some}
use Rattle.std.proofs.Math.IntN.{+ℤ_idr, neg_ℤ-neg_ℤ}
use Rattle.sb_lit.specs.declared.clause.Lit.{Lit}
use Rattle.sb_meaning.specs.Terms.{Sort, Term}
use Rattle.sb_meaning.specs.Values.{Valuation}
use Rattle.sb_meaning.specs.Truth.{means_number, are_equal, is_less, is_at_most, meaning_of}
use Rattle.sb_rulebook.specs.Atoms.{Atom, le_atom, sum_atom, is_one, value_of, value_of_sum}
use Rattle.sb_rulebook.specs.Parts.{together}
use Rattle.sb_rulebook.specs.Translation.{positive, negated, conjunction, bound, difference_bound, compared, number_equality}
use Rattle.sb_sound.specs.TermLaws.{fits_sorts}
use Rattle.sb_sound.proofs.ProductFacts.{less_one_times}
use Rattle.sb_sound.proofs.SumFacts.{number_of, small_same}
use Rattle.sb_sound.proofs.DifferenceFacts.{subtracted_value}
use Rattle.sb_sound.proofs.SameParts.{same_number}
use Rattle.sb_sound.proofs.AtomLiterals.{HasAtomsTruth}
use Rattle.sb_sound.proofs.GateLiterals.{T, Says, says_negated, conjunction_says, front, nothing_together, all_say}
use Rattle.sb_sound.proofs.WordLiterals.{Setting}
use Rattle.sb_script.specs.Sums.{Summand, subtracted, if_small, sum_of}

-- Tests of numbers.

pub same_truth : (b c : Bool) → (b ≡ true → c ≡ true) → (b ≡ false → c ≡ false) → b ≡ c
same_truth true c f g = sym (f refl)
same_truth false c f g = sym (g refl)

one_variable : (c x k : ℤ) → c ≡ pos 1 → int_le x k ≡ int_le ((c *ℤ x) +ℤ pos 0) k
one_variable c x k e = ap (λ (n : ℤ). int_le n k) (one c x e)
  where
    one : (c x : ℤ) → c ≡ pos 1 → x ≡ (c *ℤ x) +ℤ pos 0
    one c x e = rw e (omega (arith, ints))

less_one : (c x : ℤ) → neg_ℤ c ≡ pos 1 → (c *ℤ x) +ℤ pos 0 ≡ pos 0 -ℤ x
less_one c x e =
    +ℤ_idr (c *ℤ x)
    ∙ ap (λ (n : ℤ). n *ℤ x) (sym (neg_ℤ-neg_ℤ c) ∙ ap neg_ℤ e)
    ∙ less_one_times x

turned : (x k : ℤ) → not (int_le x (neg_ℤ k -ℤ pos 1)) ≡ int_le (pos 0 -ℤ x) k
turned x k = step (int_le x (neg_ℤ k -ℤ pos 1)) refl
  where
    step : (b : Bool) → int_le x (neg_ℤ k -ℤ pos 1) ≡ b → not b ≡ int_le (pos 0 -ℤ x) k
    step true e = sym (above x k e)
      where
        above : (x k : ℤ) → int_le x (neg_ℤ k -ℤ pos 1) ≡ true → int_le (pos 0 -ℤ x) k ≡ false
        above x k e = grind (arith, ints)
    step false e = sym (below x k e)
      where
        below : (x k : ℤ) → int_le x (neg_ℤ k -ℤ pos 1) ≡ false → int_le (pos 0 -ℤ x) k ≡ true
        below x k e = grind (arith, ints)

moved : (z c k : ℤ) → int_le z (k -ℤ c) ≡ int_le (z +ℤ c) k
moved z c k = same_truth (int_le z (k -ℤ c)) (int_le (z +ℤ c) k) (below z c k) (above z c k)
  where
    below : (z c k : ℤ) → int_le z (k -ℤ c) ≡ true → int_le (z +ℤ c) k ≡ true
    below z c k e = grind (arith, ints)

    above : (z c k : ℤ) → int_le z (k -ℤ c) ≡ false → int_le (z +ℤ c) k ≡ false
    above z c k e = grind (arith, ints)

less_by_test : (m n : ℤ) → is_less m n ≡ int_lt m n
less_by_test m n = step (int_lt m n) (int_lt n m)
  where
    step : (b c : Bool) → is_lt (cond b Less (cond c Greater Equal)) ≡ b
    step true c = refl
    step false true = refl
    step false false = refl

pub at_most_by_difference : (m n : ℤ) → int_le (m -ℤ n) (pos 0) ≡ is_at_most m n
at_most_by_difference m n =
    same_truth (int_le (m -ℤ n) (pos 0)) (not (int_lt n m)) (below m n) (above m n) ∙ ap not (sym (less_by_test n m))
  where
    below : (m n : ℤ) → int_le (m -ℤ n) (pos 0) ≡ true → not (int_lt n m) ≡ true
    below m n e = grind (arith, ints)

    above : (m n : ℤ) → int_le (m -ℤ n) (pos 0) ≡ false → not (int_lt n m) ≡ false
    above m n e = grind (arith, ints)

pub less_by_difference : (m n : ℤ) → int_le (m -ℤ n) (neg_ℤ (pos 1)) ≡ is_less m n
less_by_difference m n =
    same_truth (int_le (m -ℤ n) (negsuc 0)) (int_lt m n) (below m n) (above m n) ∙ sym (less_by_test m n)
  where
    below : (m n : ℤ) → int_le (m -ℤ n) (negsuc 0) ≡ true → int_lt m n ≡ true
    below m n e = grind (arith, ints)

    above : (m n : ℤ) → int_le (m -ℤ n) (negsuc 0) ≡ false → int_lt m n ≡ false
    above m n e = grind (arith, ints)

equal_by_differences : (m n : ℤ)
    → (int_le (m -ℤ n) (pos 0) && (int_le (n -ℤ m) (pos 0) && true)) ≡ is_eq (int_cmp m n)
equal_by_differences m n =
    step (int_lt m n) (int_lt n m) (int_le (m -ℤ n) (pos 0)) (int_le (n -ℤ m) (pos 0)) (first m n) (first n m)
  where
    first : (m n : ℤ) → int_le (m -ℤ n) (pos 0) ≡ not (int_lt n m)
    first m n = at_most_by_difference m n ∙ ap not (less_by_test n m)

    step : (b c p q : Bool) → p ≡ not c → q ≡ not b
        → (p && (q && true)) ≡ is_eq (cond b Less (cond c Greater Equal))
    step true c true q e f = ap (λ x. x && true) f
    step true c false q e f = refl
    step false true p q e f = ap (λ x. x && (q && true)) e
    step false false p q e f = ap₂ (λ x y. x && (y && true)) e f

-- Bounds of sums.

bound_says : (v : Valuation) (atoms : List Atom) → HasAtomsTruth v atoms → (ss : List Summand) (k : ℤ)
    → Says v atoms (bound atoms ss k) (int_le (value_of_sum v ss) k)
bound_says v atoms truth [] k l h = step (int_le (pos 0) k) h
  where
    step : (b : Bool) → (if b then conjunction atoms [] else negated (conjunction atoms [])) ≡ Some l → T v atoms l ≡ b
    step true h = conjunction_says v atoms truth [] l h
    step false h = says_negated v atoms (conjunction atoms []) true (conjunction_says v atoms truth []) l h
bound_says v atoms truth ((c, x) ∷ []) k l h = step (is_one c) refl (is_one (neg_ℤ c)) refl h
  where
    step : (b : Bool) → is_one c ≡ b → (d : Bool) → is_one (neg_ℤ c) ≡ d
        → (if b then positive atoms (le_atom x k)
        else if d then negated (positive atoms (le_atom x (neg_ℤ k -ℤ pos 1)))
        else positive atoms (sum_atom k ((c, x) ∷ []))) ≡ Some l
        → T v atoms l ≡ int_le ((c *ℤ value_of v x) +ℤ pos 0) k
    step true e d f h = truth (le_atom x k) l h ∙ one_variable c (value_of v x) k (same_number c (pos 1) e)
    step false e true f h =
        says_negated v atoms (positive atoms (le_atom x (neg_ℤ k -ℤ pos 1)))
        (int_le (value_of v x) (neg_ℤ k -ℤ pos 1)) (truth (le_atom x (neg_ℤ k -ℤ pos 1))) l h
        ∙ turned (value_of v x) k
        ∙ ap (λ (n : ℤ). int_le n k) (sym (less_one c (value_of v x) (same_number (neg_ℤ c) (pos 1) f)))
    step false e false f h = truth (sum_atom k ((c, x) ∷ [])) l h
bound_says v atoms truth (s ∷ t ∷ ss) k l h = truth (sum_atom k (s ∷ t ∷ ss)) l h

-- the terms mean numbers, and the literal is true where their difference is at most k
pub record IsComparison (v : Valuation) (atoms : List Atom) (k : ℤ) (a b : Term) (l : Lit) : Type 0 where
  pub first : ℤ
  pub second : ℤ
  pub first_meaning : meaning_of v a ≡ means_number first
  pub second_meaning : meaning_of v b ≡ means_number second
  pub truth : T v atoms l ≡ int_le (first -ℤ second) k

pub compared_says : (v : Valuation) (sorts : List Sort) (atoms : List Atom) → Setting v sorts atoms → (k : ℤ)
    → (a b : Term) → fits_sorts sorts a ≡ true → fits_sorts sorts b ≡ true → (l : Lit)
    → compared atoms k a b ≡ Some l → IsComparison v atoms k a b l
compared_says v sorts atoms setting k a b fits_a fits_b l h =
    option_and_then_some (λ s. option_and_then (difference_bound atoms k s) (sum_of b)) (sum_of a) l h
    (λ s here rest. option_and_then_some (difference_bound atoms k s) (sum_of b) l rest
    (λ t there difference.
    option_and_then_some (λ d. bound atoms d.summands (k -ℤ d.constant)) (if_small (subtracted s t)) l difference
    (λ d small bounded. record {
      first = number_of v s;
      second = number_of v t;
      first_meaning = setting.sums v sorts a s setting.sorted fits_a here;
      second_meaning = setting.sums v sorts b t setting.sorted fits_b there;
      truth = bound_says v atoms setting.truth d.summands (k -ℤ d.constant) l bounded
          ∙ moved (value_of_sum v d.summands) d.constant k
          ∙ ap (λ (n : ℤ). int_le n k) (ap (number_of v) (sym (small_same (subtracted s t) d small))
          ∙ subtracted_value v sorts a b s t fits_a fits_b here there);
    })))

-- Equalities of numbers.

number_equality_at : (v : Valuation) (sorts : List Sort) (atoms : List Atom) → Setting v sorts atoms
    → (a b : Term) → fits_sorts sorts a ≡ true → fits_sorts sorts b ≡ true
    → (ls : List Lit) → together (compared atoms (pos 0) a b ∷ compared atoms (pos 0) b a ∷ []) ≡ Some ls
    → list_all (T v atoms) ls ≡ are_equal (meaning_of v a) (meaning_of v b)
number_equality_at v sorts atoms setting a b fits_a fits_b ls h =
    let up = front (compared atoms (pos 0) a b) (compared atoms (pos 0) b a ∷ []) ls h in
    let down = front (compared atoms (pos 0) b a) [] up.others up.later in
    let below = compared_says v sorts atoms setting (pos 0) a b fits_a fits_b up.one up.first in
    let above = compared_says v sorts atoms setting (pos 0) b a fits_b fits_a down.one down.first in
    let firsts : below.first ≡ above.second =
    same_meant below.first above.second (sym below.first_meaning ∙ above.second_meaning) in
    let seconds : below.second ≡ above.first =
    same_meant below.second above.first (sym below.second_meaning ∙ above.first_meaning) in
    ap (list_all (T v atoms)) up.whole
    ∙ ap (λ ms. T v atoms up.one && list_all (T v atoms) ms) (down.whole
    ∙ ap (λ ms. down.one ∷ ms) (nothing_together down.others down.later))
    ∙ ap₂ (λ x y. x && (y && true)) below.truth (above.truth
    ∙ ap₂ (λ (m n : ℤ). int_le (m -ℤ n) (pos 0)) (sym seconds) (sym firsts))
    ∙ equal_by_differences below.first below.second
    ∙ sym (ap₂ are_equal below.first_meaning below.second_meaning)
  where
    same_meant : (m n : ℤ) → means_number m ≡ means_number n → m ≡ n
    same_meant m n e = cc

pub number_equality_says : (v : Valuation) (sorts : List Sort) (atoms : List Atom) → Setting v sorts atoms
    → (a b : Term) → fits_sorts sorts a ≡ true → fits_sorts sorts b ≡ true
    → Says v atoms (number_equality atoms a b) (are_equal (meaning_of v a) (meaning_of v b))
number_equality_says v sorts atoms setting a b fits_a fits_b =
    all_say v atoms setting.truth (compared atoms (pos 0) a b ∷ compared atoms (pos 0) b a ∷ [])
    (are_equal (meaning_of v a) (meaning_of v b))
    (number_equality_at v sorts atoms setting a b fits_a fits_b)
