-- Members of unions and intersections of sets of characters, and that they stay canonical.
use Rattle.std.proofs.Common.{◌≡◌, ℕ, ◌+◌, ◌≤◌, Bool, true, false, ◌&&◌, ◌||◌, nat_lt, nat_le, min, max, cond, List, [], ◌∷◌, ◌++◌, refl, sym, ap, ap₂, ◌∙◌, arith}
use Rattle.std.specs.List.{list_all}
use Rattle.std.proofs.Math.Bool.{and-false, and-or_distrib_left, and-or_distrib_right, or_assoc}
use Rattle.std.proofs.lemmas.Bool.{and_parts, ltb-true, leb-true, le-leb, lt-ltb}
use Rattle.std.proofs.lemmas.Bool.Decides.{nat_tests}
use Rattle.sb_class.specs.Ranges.{Range, in_range, in_ranges, rises_from, IsCanonical}
use Rattle.sb_lang.specs.RangeSets.{with_range, union, overlap, within_range, inter}
use Rattle.sb_lang.proofs.BoolFacts.{or_swap}
use Rattle.sb_class.proofs.CallerLemmas.{in_range_tells, in_ranges-nil, in_ranges-one, rises_from-nil, rises_from-parts, rises_from-join, rises_from-weaker}

-- two ranges that overlap or touch are one
hull : (r s : Range) (c : ℕ) → nat_lt (r.1 + 1) s.0 ≡ false → nat_lt (s.1 + 1) r.0 ≡ false
    → in_range (min r.0 s.0, max r.1 s.1) c ≡ (in_range r c || in_range s c)
hull r s c near close =
    grind (arith, nat_tests, in_range_tells r c, in_range_tells s c, in_range_tells (min r.0 s.0, max r.1 s.1) c)

pub in_ranges-with_range : (r : Range) (ss : List Range) (c : ℕ)
    → in_ranges (with_range r ss) c ≡ (in_range r c || in_ranges ss c)
unfolding with_range in_ranges
in_ranges-with_range r [] c = refl
in_ranges-with_range r (s ∷ ss) c =
    step (λ t. in_ranges-with_range t ss c) (nat_lt (r.1 + 1) s.0) refl (nat_lt (s.1 + 1) r.0) refl
  where
    step : ((t : Range) → in_ranges (with_range t ss) c ≡ (in_range t c || in_ranges ss c)) →
        (b : Bool) → nat_lt (r.1 + 1) s.0 ≡ b → (d : Bool) → nat_lt (s.1 + 1) r.0 ≡ d →
        in_ranges (elim b [
          | true ↦ r ∷ s ∷ ss
          | false ↦ elim d
              [ true ↦ s ∷ with_range r ss | false ↦ with_range (min r.0 s.0, max r.1 s.1) ss ]
        ]) c
        ≡ (in_range r c || (in_range s c || in_ranges ss c))
    step rest true before d after = refl
    step rest false before true after =
        ap (λ x. in_range s c || x) (rest r) ∙ or_swap (in_range s c) (in_range r c) (in_ranges ss c)
    step rest false before false after =
        rest (min r.0 s.0, max r.1 s.1)
        ∙ ap (λ x. x || in_ranges ss c) (hull r s c before after)
        ∙ or_assoc (in_range r c) (in_range s c) (in_ranges ss c)

pub in_ranges-union : (rs ss : List Range) (c : ℕ) → in_ranges (union rs ss) c ≡ (in_ranges rs c || in_ranges ss c)
unfolding union in_ranges
in_ranges-union [] ss c = refl
in_ranges-union (r ∷ rs) ss c =
    in_ranges-with_range r (union rs ss) c
    ∙ ap (λ x. in_range r c || x) (in_ranges-union rs ss c)
    ∙ sym (or_assoc (in_range r c) (in_ranges rs c) (in_ranges ss c))

in_ranges-append : (rs ss : List Range) (c : ℕ) → in_ranges (rs ++ ss) c ≡ (in_ranges rs c || in_ranges ss c)
unfolding in_ranges
in_ranges-append [] ss c = refl
in_ranges-append (r ∷ rs) ss c =
    ap (λ x. in_range r c || x) (in_ranges-append rs ss c)
    ∙ sym (or_assoc (in_range r c) (in_ranges rs c) (in_ranges ss c))

meet_of_two : (r s : Range) (c : ℕ) → in_range (max r.0 s.0, min r.1 s.1) c ≡ (in_range r c && in_range s c)
meet_of_two r s c = grind
    (arith, nat_tests, in_range_tells r c, in_range_tells s c, in_range_tells (max r.0 s.0, min r.1 s.1) c)

no_meet : (r s : Range) (c : ℕ) → nat_le (max r.0 s.0) (min r.1 s.1) ≡ false → false ≡ (in_range r c && in_range s c)
no_meet r s c empty = grind (arith, nat_tests, in_range_tells r c, in_range_tells s c)

in_ranges-overlap : (r s : Range) (c : ℕ) → in_ranges (overlap r s) c ≡ (in_range r c && in_range s c)
unfolding overlap
in_ranges-overlap r s c = step (nat_le (max r.0 s.0) (min r.1 s.1)) refl
  where
    step : (b : Bool) → nat_le (max r.0 s.0) (min r.1 s.1) ≡ b →
        in_ranges (cond b ((max r.0 s.0, min r.1 s.1) ∷ []) []) c ≡ (in_range r c && in_range s c)
    step true some =
        in_ranges-one (max r.0 s.0, min r.1 s.1) c ∙ meet_of_two r s c
    step false empty = in_ranges-nil c ∙ no_meet r s c empty

in_ranges-within_range : (r : Range) (ss : List Range) (c : ℕ)
    → in_ranges (within_range r ss) c ≡ (in_range r c && in_ranges ss c)
unfolding within_range in_ranges
in_ranges-within_range r [] c = sym (and-false (in_range r c))
in_ranges-within_range r (s ∷ ss) c =
    in_ranges-append (overlap r s) (within_range r ss) c
    ∙ ap₂ ◌||◌ (in_ranges-overlap r s c) (in_ranges-within_range r ss c)
    ∙ sym (and-or_distrib_left (in_range r c) (in_range s c) (in_ranges ss c))

pub in_ranges-inter : (rs ss : List Range) (c : ℕ) → in_ranges (inter rs ss) c ≡ (in_ranges rs c && in_ranges ss c)
unfolding inter in_ranges
in_ranges-inter [] ss c = refl
in_ranges-inter (r ∷ rs) ss c =
    in_ranges-append (within_range r ss) (inter rs ss) c
    ∙ ap₂ ◌||◌ (in_ranges-within_range r ss c) (in_ranges-inter rs ss c)
    ∙ sym (and-or_distrib_right (in_range r c) (in_ranges rs c) (in_ranges ss c))

-- They stay canonical.

rises_from-with_range : (n : ℕ) (r : Range) (ss : List Range) → n ≤ r.0 → r.0 ≤ r.1 → r.1 ≤ 0x2ffff
    → rises_from n ss ≡ true → rises_from n (with_range r ss) ≡ true
unfolding with_range
rises_from-with_range n r [] low some high h = rises_from-join n r [] low some high (rises_from-nil (r.1 + 2))
rises_from-with_range n r (s ∷ ss) low some high h =
    let p = rises_from-parts n s ss h in
    step (λ k t. rises_from-with_range k t ss) p.0 p.1 p.2 p.3 (nat_lt (r.1 + 1) s.0) refl (nat_lt (s.1 + 1) r.0) refl
  where
    step : ((k : ℕ) (t : Range) → k ≤ t.0 → t.0 ≤ t.1 → t.1 ≤ 0x2ffff → rises_from k ss ≡ true
        → rises_from k (with_range t ss) ≡ true) →
        n ≤ s.0 → s.0 ≤ s.1 → s.1 ≤ 0x2ffff → rises_from (s.1 + 2) ss ≡ true →
        (b : Bool) → nat_lt (r.1 + 1) s.0 ≡ b → (d : Bool) → nat_lt (s.1 + 1) r.0 ≡ d →
        rises_from n (elim b [
          | true ↦ r ∷ s ∷ ss
          | false ↦ elim d
              [ true ↦ s ∷ with_range r ss | false ↦ with_range (min r.0 s.0, max r.1 s.1) ss ]
        ]) ≡ true
    step rest a b' c tail true before d after =
        let lt = ltb-true (r.1 + 1) s.0 before in
        rises_from-join n r (s ∷ ss) low some high (rises_from-join (r.1 + 2) s ss (omega arith) b' c tail)
    step rest a b' c tail false before true after =
        let lt = ltb-true (s.1 + 1) r.0 after in
        rises_from-join n s (with_range r ss) a b' c (rest (s.1 + 2) r (omega arith) some high tail)
    step rest a b' c tail false before false after =
        rest n (min r.0 s.0, max r.1 s.1) (omega arith) (omega arith) (omega arith)
        (rises_from-weaker (s.1 + 2) n ss (omega arith) tail)

rises_from-union : (n : ℕ) (rs ss : List Range) → rises_from n rs ≡ true → rises_from n ss ≡ true
    → rises_from n (union rs ss) ≡ true
unfolding union
rises_from-union n [] ss h g = g
rises_from-union n (r ∷ rs) ss h g =
    let p = rises_from-parts n r rs h in
    rises_from-with_range n r (union rs ss) p.0 p.1 p.2
    (rises_from-union n rs ss (rises_from-weaker (r.1 + 2) n rs (omega (arith, p.0, p.1)) p.3) g)

pub IsCanonical-union : (rs ss : List Range) → IsCanonical rs → IsCanonical ss → IsCanonical (union rs ss)
IsCanonical-union rs ss h g = rises_from-union 0 rs ss h g

-- ranges that end by a number, and others that start two behind it
rises_from-append : (n e : ℕ) (rs ss : List Range) → rises_from n rs ≡ true → list_all (λ r. nat_le r.1 e) rs ≡ true
    → n ≤ e + 2 → rises_from (e + 2) ss ≡ true → rises_from n (rs ++ ss) ≡ true
rises_from-append n e [] ss h ends le g = rises_from-weaker (e + 2) n ss le g
rises_from-append n e (r ∷ rs) ss h ends le g =
    let p = rises_from-parts n r rs h in
    let q = and_parts (nat_le r.1 e) _ ends in
    let last = leb-true r.1 e q.0 in
    rises_from-join n r (rs ++ ss) p.0 p.1 p.2 (rises_from-append (r.1 + 2) e rs ss p.3 q.1 (omega arith) g)

-- what a range and a set have in common lies in the range
within_range-ends : (r : Range) (ss : List Range) → list_all (λ t. nat_le t.1 r.1) (within_range r ss) ≡ true
unfolding within_range overlap
within_range-ends r [] = refl
within_range-ends r (s ∷ ss) = step (within_range-ends r ss) (nat_le (max r.0 s.0) (min r.1 s.1))
  where
    step : list_all (λ t. nat_le t.1 r.1) (within_range r ss) ≡ true → (b : Bool) →
        list_all (λ t. nat_le t.1 r.1) (cond b ((max r.0 s.0, min r.1 s.1) ∷ []) [] ++ within_range r ss) ≡ true
    step rest true = ap₂ ◌&&◌ (le-leb (min r.1 s.1) r.1 (omega arith)) rest
    step rest false = rest

rises_from-within_range : (n k : ℕ) (r : Range) (ss : List Range) → r.1 ≤ 0x2ffff → n ≤ max r.0 k
    → rises_from k ss ≡ true → rises_from n (within_range r ss) ≡ true
unfolding within_range overlap
rises_from-within_range n k r [] high le h = rises_from-nil n
rises_from-within_range n k r (s ∷ ss) high le h =
    let p = rises_from-parts k s ss h in
    step p.0 p.1 p.2 (λ j below. rises_from-within_range j (s.1 + 2) r ss high below p.3)
    (nat_le (max r.0 s.0) (min r.1 s.1)) refl
  where
    step : k ≤ s.0 → s.0 ≤ s.1 → s.1 ≤ 0x2ffff
        → ((j : ℕ) → j ≤ max r.0 (s.1 + 2) → rises_from j (within_range r ss) ≡ true) →
        (b : Bool) → nat_le (max r.0 s.0) (min r.1 s.1) ≡ b →
        rises_from n (cond b ((max r.0 s.0, min r.1 s.1) ∷ []) [] ++ within_range r ss) ≡ true
    step a b' c rest true is =
        let le' = leb-true (max r.0 s.0) (min r.1 s.1) is in
        rises_from-join n (max r.0 s.0, min r.1 s.1) (within_range r ss) (omega arith) le' (omega arith)
        (rest (min r.1 s.1 + 2) (omega arith))
    step a b' c rest false is = rest n (omega arith)

rises_from-inter : (n : ℕ) (rs ss : List Range) → rises_from n rs ≡ true → rises_from 0 ss ≡ true
    → rises_from n (inter rs ss) ≡ true
unfolding inter
rises_from-inter n [] ss h g = rises_from-nil n
rises_from-inter n (r ∷ rs) ss h g =
    let p = rises_from-parts n r rs h in
    rises_from-append n r.1 (within_range r ss) (inter rs ss)
    (rises_from-within_range n 0 r ss p.2 (omega (arith, p.0)) g) (within_range-ends r ss) (omega (arith, p.0, p.1))
    (rises_from-inter (r.1 + 2) rs ss p.3 g)

pub IsCanonical-inter : (rs ss : List Range) → IsCanonical rs → IsCanonical ss → IsCanonical (inter rs ss)
IsCanonical-inter rs ss h g = rises_from-inter 0 rs ss h g

-- with the empty set nothing is added
pub union-nil : (n : ℕ) (rs : List Range) → rises_from n rs ≡ true → union rs [] ≡ rs
unfolding union with_range
union-nil n [] h = refl
union-nil n (r ∷ rs) h =
    let p = rises_from-parts n r rs h in
    ap (with_range r) (union-nil (r.1 + 2) rs p.3) ∙ in_front r rs p.3
  where
    in_front : (r : Range) (rs : List Range) → rises_from (r.1 + 2) rs ≡ true → with_range r rs ≡ r ∷ rs
    in_front r [] g = refl
    in_front r (s ∷ ss) g =
        let q = rises_from-parts (r.1 + 2) s ss g in
        let lt : nat_lt (r.1 + 1) s.0 ≡ true = lt-ltb (r.1 + 1) s.0 (omega (arith, q.0)) in
        ap (λ b. elim b [
          | true ↦ r ∷ s ∷ ss
          | false ↦ elim (nat_lt (s.1 + 1) r.0)
              [ true ↦ s ∷ with_range r ss | false ↦ with_range (min r.0 s.0, max r.1 s.1) ss ]
        ]) lt
