-- The live assertions with their levels.
use Rattle.sb_prover.proofs.Words.{◌≡◌, ℕ, zero, suc, ◌+◌, Bool, true, false, List, [], ◌∷◌, ◌++◌, map, length, take, drop, replicate, Option, Some, refl, sym, ap, ap₂, ◌∙◌, arith, take-append_seam, append_assoc, AreLow, Assertion, Level, LevelsStay, Naming, Term, append-nil, at_level, empty_level, in_level, in_level_of_names, length-map, level_at, live_by_level, map-append, none-some, over_levels, same_Some, term_of}

abbrev pub Row : Type 0
Row = Option Term × ℕ

-- Over the levels of a state.

at-both : (n : ℕ) (xs ys : List Assertion) → at_level n (xs ++ ys) ≡ at_level n xs ++ at_level n ys
at-both n [] ys = refl
at-both n (a ∷ xs) ys = ap (λ rows. (term_of a, n) ∷ rows) (at-both n xs ys)

-- the terms alone
terms-at : (n : ℕ) (xs : List Assertion) → map (λ (row : Row). row.0) (at_level n xs) ≡ map term_of xs
terms-at n [] = refl
terms-at n (a ∷ xs) = ap (λ ts. term_of a ∷ ts) (terms-at n xs)

pub terms-by-level : (first : Level) (above : List Level) → map (λ (row : Row). row.0)
    (live_by_level first above) ≡ map term_of (over_levels (λ l. l.assertions) first above)
terms-by-level first [] = terms-at 0 first.assertions
terms-by-level first (l ∷ ls) =
    map-append (λ (row : Row). row.0) (live_by_level first ls) (at_level (length ls + 1) l.assertions)
    ∙ ap₂ (λ a b. a ++ b) (terms-by-level first ls) (terms-at (length ls + 1) l.assertions)
    ∙ sym (map-append term_of (over_levels (λ l. l.assertions) first ls) l.assertions)

as-many : (first : Level) (above : List Level)
    → length (over_levels (λ l. l.assertions) first above) ≡ length (live_by_level first above)
as-many first above =
    sym (length-map (over_levels (λ l. l.assertions) first above) term_of)
    ∙ ap length (sym (terms-by-level first above)) ∙ length-map (live_by_level first above) (λ (row : Row). row.0)

-- the level that new names enter with one more name, or the innermost one with one more assertion
first-name : (n : Naming) (first : Level) (above : List Level)
    → live_by_level (record first { names = first.names ++ n ∷ [] }) above ≡ live_by_level first above
first-name n first [] = refl
first-name n first (l ∷ ls) =
    ap (λ rows. rows ++ at_level (length ls + 1) l.assertions) (first-name n first ls)

pub one-name : (global : Bool) (n : Naming) (first : Level) (above : List Level)
    → (let levels = in_level_of_names global (λ l. record l { names = l.names ++ n ∷ [] }) first above in
    live_by_level levels.0 levels.1) ≡ live_by_level first above
one-name true n first above = first-name n first above
one-name false n first [] = refl
one-name false n first (l ∷ ls) = refl

pub one-assertion : (a : Assertion) (first : Level) (above : List Level) → (more : List Row)
    × ((let levels = in_level (λ l. record l { assertions = l.assertions ++ a ∷ [] }) first above in
    live_by_level levels.0 levels.1) ≡ live_by_level first above ++ more)
one-assertion a first [] = (at_level 0 (a ∷ []), at-both 0 first.assertions (a ∷ []))
one-assertion a first (l ∷ ls) = (
  at_level (length ls + 1) (a ∷ []),
  ap (λ rows. live_by_level first ls ++ rows) (at-both (length ls + 1) l.assertions (a ∷ []))
      ∙ sym (append_assoc (live_by_level first ls) (at_level (length ls + 1) l.assertions)
      (at_level (length ls + 1) (a ∷ []))),
)

-- levels that are opened have none
pub levels-opened : (n : ℕ) (first : Level) (above : List Level)
    → live_by_level first (replicate n empty_level ++ above) ≡ live_by_level first above
levels-opened zero first above = refl
levels-opened (suc n) first above =
    append-nil (live_by_level first (replicate n empty_level ++ above)) ∙ levels-opened n first above

-- where levels are left a front stays
front : (n : ℕ) (first : Level) (above : List Level) → (more : List Row)
    × (live_by_level first above ≡ live_by_level first (drop n above) ++ more)
front zero first above = ([], sym (append-nil (live_by_level first above)))
front (suc n) first [] = ([], sym (append-nil (live_by_level first [])))
front (suc n) first (l ∷ ls) =
    let rest = front n first ls in (
      rest.0 ++ at_level (length ls + 1) l.assertions,
      ap (λ rows. rows ++ at_level (length ls + 1) l.assertions) rest.1
          ∙ append_assoc (live_by_level first (drop n ls)) rest.0 (at_level (length ls + 1) l.assertions),
    )

pub levels-left : (n : ℕ) (first : Level) (above : List Level)
    → live_by_level first (drop n above)
    ≡ take (length (over_levels (λ l. l.assertions) first (drop n above))) (live_by_level first above)
levels-left n first above =
    let rest = front n first above in
    sym (ap₂ take (as-many first (drop n above)) rest.1
    ∙ take-append_seam (live_by_level first (drop n above)) rest.0)

-- No level is above the innermost one.

none-at : (place n : ℕ) → level_at [] place ≡ Some n → ⊥
none-at zero n h = none-some n h
none-at (suc place) n h = none-some n h

low-at : (m : ℕ) (xs : List Assertion) → AreLow m (at_level m xs)
low-at m [] place n h = absurd (none-at place n h)
low-at m (a ∷ xs) zero n h = let same = same_Some m n h in omega (arith, same)
low-at m (a ∷ xs) (suc place) n h = low-at m xs place n h

low-both : (m : ℕ) (xs ys : List Row) → AreLow m xs → AreLow m ys → AreLow m (xs ++ ys)
low-both m [] ys h k place n there = k place n there
low-both m (x ∷ xs) ys h k zero n there = h zero n there
low-both m (x ∷ xs) ys h k (suc place) n there =
    low-both m xs ys (λ other. h (suc other)) k place n there

pub low-levels : (first : Level) (above : List Level) → AreLow (length above) (live_by_level first above)
low-levels first [] = low-at 0 first.assertions
low-levels first (l ∷ ls) =
    low-both (length (l ∷ ls)) (live_by_level first ls) (at_level (length ls + 1) l.assertions)
    (λ place n there. let low = low-levels first ls place n there in omega (arith, low))
    (λ place n there. let low = low-at (length ls + 1) l.assertions place n there in omega (arith, low))

-- More assertions behind those that are live.

more-behind : (live more : List Row) (place n : ℕ) → level_at live place ≡ Some n
    → level_at (live ++ more) place ≡ Some n
more-behind [] more place n h = absurd (none-at place n h)
more-behind (x ∷ live) more zero n h = h
more-behind (x ∷ live) more (suc place) n h = more-behind live more place n h

pub levels-stay : LevelsStay
levels-stay live more e h place a there = more-behind live more place a.level (h place a there)
