-- Membership in lists of ranges, and what the order of the ranges tells.
use Rattle.std.proofs.Common.{◌≡◌, ℕ, zero, suc, ◌+◌, ◌<◌, ◌≤◌, true, false, ◌&&◌, ◌||◌, ◌⊎◌, List, [], ◌∷◌, ◌++◌, length, get_or, refl, sym, ap, ap₂, true≢false, ◌∙◌, arith, le_of_suc-le-suc, not-suc-le-zero, inl, inr, eq-or-lt_of_le, le_of_eq}
use Rattle.std.proofs.Math.Bool.{or-false, or_assoc}
use Rattle.std.proofs.lemmas.Bool.{and_parts, both_ways, cases_lt}
use Rattle.std.proofs.lemmas.Bool.Decides.{nat_tests}
use Rattle.std.proofs.lemmas.List.Recursion.{or_at, or_from_places}
use Rattle.sb_class.specs.Ranges.{Range, in_range, in_ranges, fits_from, rises_from, IsCanonical, IsEmptySet, IsLeast}

-- the range at an index
abbrev pub range_at : List Range → ℕ → Range
range_at rs k = get_or rs k (0, 0)

-- the test of a range, with what it tells
pub in_range_tells : (r : Range) (c : ℕ) → ((in_range r c ≡ true) × (r.0 ≤ c) × (c ≤ r.1))
    ⊎ ((in_range r c ≡ false) × ((c < r.0) ⊎ (r.1 < c)))
unfolding in_range
in_range_tells r c = grind (arith, nat_tests)

pub in_ranges-nil : (c : ℕ) → in_ranges [] c ≡ false
unfolding in_ranges
in_ranges-nil c = refl

pub in_ranges-cons : (r : Range) (rs : List Range) (c : ℕ) → in_ranges (r ∷ rs) c ≡ (in_range r c || in_ranges rs c)
unfolding in_ranges
in_ranges-cons r rs c = refl

pub in_ranges-one : (r : Range) (c : ℕ) → in_ranges (r ∷ []) c ≡ in_range r c
unfolding in_ranges
in_ranges-one r c = or-false (in_range r c)

pub in_ranges-push : (xs : List Range) (r : Range) (c : ℕ)
    → in_ranges (xs ++ r ∷ []) c ≡ (in_ranges xs c || in_range r c)
unfolding in_ranges
in_ranges-push [] r c = or-false (in_range r c)
in_ranges-push (x ∷ xs) r c =
    ap (λ b. in_range x c || b) (in_ranges-push xs r c)
    ∙ sym (or_assoc (in_range x c) (in_ranges xs c) (in_range r c))

pub in_ranges-at : (rs : List Range) (k c : ℕ) → k < length rs → in_range (range_at rs k) c ≡ true
    → in_ranges rs c ≡ true
unfolding in_ranges
in_ranges-at rs k c h t = or_at (λ l. in_ranges l c) (λ r. in_range r c) refl (λ _ _. refl) rs k (0, 0) h t

in_ranges-nowhere : (rs : List Range) (c : ℕ) → ((k : ℕ) → k < length rs → in_range (range_at rs k) c ≡ false)
    → in_ranges rs c ≡ false
unfolding in_ranges
in_ranges-nowhere rs c h = or_from_places (λ l. in_ranges l c) (λ r. in_range r c) refl (λ _ _. refl) rs (0, 0) h

-- no range holds a number that lies below the start or above the end of each
pub in_ranges-outside : (rs : List Range) (c : ℕ)
    → ((k : ℕ) → k < length rs → (c < (range_at rs k).0) ⊎ ((range_at rs k).1 < c)) → in_ranges rs c ≡ false
in_ranges-outside rs c h =
    in_ranges-nowhere rs c (λ k hk. grind (arith, in_range_tells (range_at rs k) c, h k hk))

pub fits_from-true : (n : ℕ) (r : Range) → fits_from n r ≡ true → (n ≤ r.0) × (r.0 ≤ r.1) × (r.1 ≤ 0x2ffff)
fits_from-true n r h = grind (arith, nat_tests)

pub le-fits_from : (n : ℕ) (r : Range) → n ≤ r.0 → r.0 ≤ r.1 → r.1 ≤ 0x2ffff → fits_from n r ≡ true
le-fits_from n r a b c = grind (arith, nat_tests)

pub rises_from-nil : (n : ℕ) → rises_from n [] ≡ true
unfolding rises_from
rises_from-nil n = refl

pub rises_from-cons : (n : ℕ) (r : Range) (rs : List Range)
    → rises_from n (r ∷ rs) ≡ (fits_from n r && rises_from (r.1 + 2) rs)
unfolding rises_from
rises_from-cons n r rs = refl

pub rises_from-parts : (n : ℕ) (r : Range) (rs : List Range) → rises_from n (r ∷ rs) ≡ true
    → (n ≤ r.0) × (r.0 ≤ r.1) × (r.1 ≤ 0x2ffff) × (rises_from (r.1 + 2) rs ≡ true)
unfolding rises_from
rises_from-parts n r rs h =
    let parts = and_parts _ _ h in
    let fits = fits_from-true n r parts.0 in
    (fits.0, fits.1, fits.2, parts.1)

pub rises_from-join : (n : ℕ) (r : Range) (rs : List Range) → n ≤ r.0 → r.0 ≤ r.1 → r.1 ≤ 0x2ffff
    → rises_from (r.1 + 2) rs ≡ true → rises_from n (r ∷ rs) ≡ true
rises_from-join n r rs a b c rest =
    rises_from-cons n r rs ∙ ap₂ ◌&&◌ (le-fits_from n r a b c) rest

-- ranges that start at the first's start or later may start from any number up to it
pub rises_from-lower : (n m : ℕ) (r : Range) (rs : List Range) → rises_from n (r ∷ rs) ≡ true → m ≤ r.0
    → rises_from m (r ∷ rs) ≡ true
rises_from-lower n m r rs h le =
    let p = rises_from-parts n r rs h in
    rises_from-join m r rs le p.1 p.2 p.3

pub rises_from-weaker : (n m : ℕ) (rs : List Range) → m ≤ n → rises_from n rs ≡ true → rises_from m rs ≡ true
rises_from-weaker n m [] le h = rises_from-nil m
rises_from-weaker n m (r ∷ rs) le h =
    rises_from-lower n m r rs h (omega (arith, (rises_from-parts n r rs h).0))

pub rises_from-at : (n : ℕ) (rs : List Range) (k : ℕ) → rises_from n rs ≡ true → k < length rs
    → (n ≤ (range_at rs k).0) × ((range_at rs k).0 ≤ (range_at rs k).1) × ((range_at rs k).1 ≤ 0x2ffff)
rises_from-at n [] k h hk = absurd (not-suc-le-zero hk)
rises_from-at n (r ∷ rs) zero h hk = let p = rises_from-parts n r rs h in (p.0, p.1, p.2)
rises_from-at n (r ∷ rs) (suc k) h hk =
    let p = rises_from-parts n r rs h in
    let rest = rises_from-at (r.1 + 2) rs k p.3 (le_of_suc-le-suc hk) in
    (omega arith, rest.1, rest.2)

rises_from-gap : (n : ℕ) (rs : List Range) (i j : ℕ) → rises_from n rs ≡ true → i < j → j < length rs
    → (range_at rs i).1 + 1 < (range_at rs j).0
rises_from-gap n [] i j h lt hj = absurd (not-suc-le-zero hj)
rises_from-gap n (r ∷ rs) zero zero h lt hj = absurd (not-suc-le-zero lt)
rises_from-gap n (r ∷ rs) (suc i) zero h lt hj = absurd (not-suc-le-zero lt)
rises_from-gap n (r ∷ rs) zero (suc j) h lt hj =
    let rest = rises_from-at (r.1 + 2) rs j (rises_from-parts n r rs h).3 (le_of_suc-le-suc hj) in
    omega arith
rises_from-gap n (r ∷ rs) (suc i) (suc j) h lt hj =
    rises_from-gap (r.1 + 2) rs i j (rises_from-parts n r rs h).3 (le_of_suc-le-suc lt) (le_of_suc-le-suc hj)

-- of two ranges in order, both ends are in order
pub rises_from-mono : (n : ℕ) (rs : List Range) (i j : ℕ) → rises_from n rs ≡ true → i ≤ j → j < length rs
    → ((range_at rs i).0 ≤ (range_at rs j).0) × ((range_at rs i).1 ≤ (range_at rs j).1)
rises_from-mono n rs i j h le hj =
    let hi : i < length rs = omega arith in
    let at_i = rises_from-at n rs i h hi in
    let at_j = rises_from-at n rs j h hj in
    elim (eq-or-lt_of_le le) [
      | inl e ↦ (le_of_eq (ap (λ k. (range_at rs k).0) e), le_of_eq (ap (λ k. (range_at rs k).1) e))
      | inr lt ↦ let gap = rises_from-gap n rs i j h lt hj in (omega arith, omega arith)
    ]

-- ranges that start at the number or later hold nothing below it
pub in_ranges-below : (n : ℕ) (rs : List Range) (c : ℕ) → rises_from n rs ≡ true → c < n → in_ranges rs c ≡ false
in_ranges-below n rs c h below = in_ranges-outside rs c (λ k hk. inl (omega (arith, (rises_from-at n rs k h hk).0)))

pub members_from : (n : ℕ) (rs : List Range) (c : ℕ) → rises_from n rs ≡ true → in_ranges rs c ≡ true → n ≤ c
members_from n rs c h t = elim (cases_lt c n) [
  | inl below ↦ absurd (both_ways _ (in_ranges-below n rs c h below) t)
  | inr le ↦ le
]

pub first_is_member : (n : ℕ) (x : Range) (xs : List Range) → rises_from n (x ∷ xs) ≡ true
    → in_ranges (x ∷ xs) x.0 ≡ true
first_is_member n x xs h =
    let p = rises_from-parts n x xs h in
    let yes : in_range x x.0 ≡ true = grind (arith, in_range_tells x x.0) in
    in_ranges-cons x xs x.0 ∙ ap (λ b. b || in_ranges xs x.0) yes

pub IsEmptySet-nil : (rs : List Range) → length rs ≡ 0 → IsEmptySet rs
IsEmptySet-nil [] e = λ c. in_ranges-nil c
IsEmptySet-nil (r ∷ rs) e = absurd (omega arith)

pub nil_from_IsEmptySet : (rs : List Range) → IsCanonical rs → IsEmptySet rs → length rs ≡ 0
nil_from_IsEmptySet [] h none = refl
nil_from_IsEmptySet (r ∷ rs) h none = absurd (both_ways _ (none r.0) (first_is_member 0 r rs h))

-- the start of the first range
pub first_is_least : (rs : List Range) → IsCanonical rs → 0 < length rs → IsLeast rs (range_at rs 0).0
first_is_least [] h some = absurd (not-suc-le-zero some)
first_is_least (x ∷ xs) h some = record {
  member = first_is_member 0 x xs h;
  below = λ c t. members_from x.0 (x ∷ xs) c (rises_from-lower 0 x.0 x xs h (omega arith)) t;
}

-- a member of the first range of one list, or the number after that range, tells where the first range of the other
-- lies
first_within : (n : ℕ) (x y : Range) (xs ys : List Range) → rises_from n (x ∷ xs) ≡ true → rises_from n (y ∷ ys) ≡ true
    →
    ((c : ℕ) → in_ranges (x ∷ xs) c ≡ in_ranges (y ∷ ys) c) → (y.0 ≤ x.0) × (x.0 ≡ y.0 → y.1 ≤ x.1)
first_within n x y xs ys hx hy same =
    let px = rises_from-parts n x xs hx in
    let py = rises_from-parts n y ys hy in
    let at : (c : ℕ) → (in_range x c || in_ranges xs c) ≡ (in_range y c || in_ranges ys c) =
    λ c. sym (in_ranges-cons x xs c) ∙ same c ∙ in_ranges-cons y ys c in (
      elim (cases_lt x.0 y.0) [
        | inl lt ↦
            let yes : in_range x x.0 ≡ true = grind (arith, in_range_tells x x.0) in
            let no : in_range y x.0 ≡ false = grind (arith, in_range_tells y x.0) in
            absurd (true≢false (rw (yes, no, in_ranges-below (y.1 + 2) ys x.0 py.3 (omega arith)) at (at x.0)))
        | inr ge ↦ ge
      ],
      λ starts. elim (cases_lt x.1 y.1) [
        | inl lt ↦
            let no : in_range x (x.1 + 1) ≡ false = grind (arith, in_range_tells x (x.1 + 1)) in
            let yes : in_range y (x.1 + 1) ≡ true = grind (arith, in_range_tells y (x.1 + 1)) in
            absurd (true≢false (sym
            (rw (yes, no, in_ranges-below (x.1 + 2) xs (x.1 + 1) px.3 (omega arith)) at (at (x.1 + 1)))))
        | inr ge ↦ ge
      ],
    )

-- lists of ranges with the same members are equal
pub same_from : (n : ℕ) (xs ys : List Range) → rises_from n xs ≡ true → rises_from n ys ≡ true →
    ((c : ℕ) → in_ranges xs c ≡ in_ranges ys c) → xs ≡ ys
same_from n [] [] hx hy same = refl
same_from n [] (y ∷ ys) hx hy same =
    absurd (true≢false (sym (first_is_member n y ys hy) ∙ sym (same y.0) ∙ in_ranges-nil y.0))
same_from n (x ∷ xs) [] hx hy same =
    absurd (true≢false (sym (first_is_member n x xs hx) ∙ same x.0 ∙ in_ranges-nil x.0))
same_from n (x ∷ xs) (y ∷ ys) hx hy same =
    let one = first_within n x y xs ys hx hy same in
    let other = first_within n y x ys xs hy hx (λ c. sym (same c)) in
    let starts : x.0 ≡ y.0 = omega (arith, one.0, other.0) in
    let ends : x.1 ≡ y.1 = omega (arith, one.1 starts, other.1 (sym starts)) in
    let tx = (rises_from-parts n x xs hx).3 in
    let ty : rises_from (x.1 + 2) ys ≡ true = rw ends (rises_from-parts n y ys hy).3 in
    let rest : (c : ℕ) → in_ranges xs c ≡ in_ranges ys c = λ c. elim (cases_lt c (x.1 + 2)) [
      | inl lt ↦ in_ranges-below _ xs c tx lt ∙ sym (in_ranges-below _ ys c ty lt)
      | inr ge ↦
          let no_x : in_range x c ≡ false = grind (arith, in_range_tells x c) in
          let no_y : in_range y c ≡ false = grind (arith, in_range_tells y c) in
          rw (no_x, no_y) at (sym (in_ranges-cons x xs c) ∙ same c ∙ in_ranges-cons y ys c)
    ] in
    ap₂ ◌∷◌ (ap₂ (λ a b. (a, b)) starts ends) (same_from (x.1 + 2) xs ys tx ty rest)
