-- A list of ranges that grows at its end.
use Rattle.std.proofs.Common.{◌≡◌, ℕ, ◌+◌, ◌-◌, ◌<◌, ◌≤◌, ◌||◌, ◌&&◌, Bool, true, false, max, List, [], ◌∷◌, ◌++◌, length, take, set, get_or, refl, sym, ap, ◌∙◌, arith, take_all}
use Rattle.std.proofs.Math.Bool.{and-true, and_assoc}
use Rattle.std.proofs.lemmas.Bool.{and_parts, and_from}
use Rattle.std.proofs.lemmas.List.{take_more, take_more_set, length-set, nil_from_length}
use Rattle.sb_class.specs.Ranges.{Range, in_range, in_ranges, fits_from, rises_from, IsCanonical}
use Rattle.sb_class.specs.Ends.{last_start_or, IsPushed}
use Rattle.sb_class.proofs.RangeFacts.{in_range_tells, in_ranges-push, fits_from-true, le-fits_from}

-- where a range may start that neither overlaps nor touches these, which start at the number or later
unfoldable pub next_free : ℕ → List Range → ℕ
next_free n [] = n
next_free n (r ∷ rs) = next_free (r.1 + 2) rs

pub next_free-nil : (n : ℕ) → next_free n [] ≡ n
unfolding next_free
next_free-nil n = refl

pub next_free-push : (n : ℕ) (xs : List Range) (r : Range) → next_free n (xs ++ r ∷ []) ≡ r.1 + 2
unfolding next_free
next_free-push n [] r = refl
next_free-push n (x ∷ xs) r = next_free-push (x.1 + 2) xs r

pub last_start_or-nil : (n : ℕ) → last_start_or n [] ≡ n
unfolding last_start_or
last_start_or-nil n = refl

pub last_start_or-push : (n : ℕ) (xs : List Range) (r : Range) → last_start_or n (xs ++ r ∷ []) ≡ r.0
unfolding last_start_or
last_start_or-push n [] r = refl
last_start_or-push n (x ∷ xs) r = last_start_or-push x.0 xs r

rises_from-push : (n : ℕ) (xs : List Range) (r : Range)
    → rises_from n (xs ++ r ∷ []) ≡ (rises_from n xs && fits_from (next_free n xs) r)
unfolding rises_from next_free
rises_from-push n [] r = and-true (fits_from n r)
rises_from-push n (x ∷ xs) r =
    ap (λ b. fits_from n x && b) (rises_from-push (x.1 + 2) xs r)
    ∙ sym (and_assoc (fits_from n x) (rises_from (x.1 + 2) xs) (fits_from (next_free (x.1 + 2) xs) r))

-- a canonical list stays so where a range is added after a gap
pub canonical_push : (xs : List Range) (r : Range) → IsCanonical xs → next_free 0 xs ≤ r.0 → r.0 ≤ r.1 → r.1 ≤ 0x2ffff
    → IsCanonical (xs ++ r ∷ [])
canonical_push xs r h a b c = rises_from-push 0 xs r ∙ and_from _ _ h (le-fits_from _ r a b c)

-- what is known of a canonical list with a last range
last_fits : (xs : List Range) (r : Range) → IsCanonical (xs ++ r ∷ []) → IsCanonical xs × (next_free 0 xs ≤ r.0)
    × (r.0 ≤ r.1) × (r.1 ≤ 0x2ffff)
last_fits xs r h =
    let parts = and_parts _ _ (sym (rises_from-push 0 xs r) ∙ h) in
    let fits = fits_from-true _ r parts.1 in
    (parts.0, fits.0, fits.1, fits.2)

-- two ranges that touch hold what their hull holds
hull : (b : Bool) (last r : Range) (c : ℕ) → last.0 ≤ r.0 → r.0 ≤ last.1 + 1 → last.0 ≤ last.1
    → (b || in_range (last.0, max last.1 r.1) c) ≡ ((b || in_range last c) || in_range r c)
hull true last r c p q s = refl
hull false last r c p q s =
    grind (arith, in_range_tells (last.0, max last.1 r.1) c, in_range_tells last c, in_range_tells r c)

-- a range that touches the last one is joined with it
joined_at_end : (xs : List Range) (last r : Range) → IsCanonical (xs ++ last ∷ [])
    → fits_from (last_start_or 0 (xs ++ last ∷ [])) r ≡ true → r.0 ≤ last.1 + 1
    → IsPushed (xs ++ last ∷ []) (xs ++ (last.0, max last.1 r.1) ∷ []) r
joined_at_end xs last r h fits touches =
    let f = fits_from-true _ r fits in
    let starts : last.0 ≤ r.0 = omega (arith, last_start_or-push 0 xs last) in
    let l = last_fits xs last h in record {
      canonical = canonical_push xs (last.0, max last.1 r.1) l.0 l.1 (omega arith) (omega arith);
      members = λ c. in_ranges-push xs (last.0, max last.1 r.1) c ∙ hull _ last r c starts touches l.2
          ∙ ap (λ b. b || in_range r c) (sym (in_ranges-push xs last c));
      last = omega (arith, last_start_or-push 0 xs (last.0, max last.1 r.1));
    }

-- another range is added
added_at_end : (xs : List Range) (r : Range) → IsCanonical xs → next_free 0 xs ≤ r.0
    → fits_from (last_start_or 0 xs) r ≡ true → IsPushed xs (xs ++ r ∷ []) r
added_at_end xs r h free fits =
    let f = fits_from-true _ r fits in record {
      canonical = canonical_push xs r h free f.1 f.2;
      members = in_ranges-push xs r;
      last = omega (arith, last_start_or-push 0 xs r);
    }

-- a list is its front and its last item, also after that item is replaced
front_last : (xs : List Range) (n : ℕ) (last : Range) → n ≡ length xs → 0 < n → last ≡ get_or xs (n - 1) last
    → xs ≡ take (n - 1) xs ++ last ∷ []
front_last xs n last len some is =
    sym (take_all (n - 1 + 1) xs (omega arith)) ∙ take_more xs (n - 1) last (omega arith)
    ∙ ap (λ (r : Range). take (n - 1) xs ++ r ∷ []) (sym is)

front_new : (xs : List Range) (n : ℕ) (new : Range) → n ≡ length xs → 0 < n
    → set xs (n - 1) new ≡ take (n - 1) xs ++ new ∷ []
front_new xs n new len some =
    sym (take_all (n - 1 + 1) (set xs (n - 1) new) (omega (arith, length-set xs (n - 1) new)))
    ∙ take_more_set xs (n - 1) new (omega arith)

-- the last range of a canonical list ends at a character
pub last_within : (old : List Range) (n : ℕ) (last : Range) → n ≡ length old → 0 < n → last ≡ get_or old (n - 1) last
    → IsCanonical old → last.1 ≤ 0x2ffff
last_within old n last len some is h =
    (last_fits _ _ (ap (rises_from 0) (sym (front_last old n last len some is)) ∙ h)).3

-- the last range is replaced by its hull with a range that touches it
pub pushed_onto_last : (old : List Range) (n : ℕ) (last r : Range) (end : ℕ) → n ≡ length old → 0 < n
    → last ≡ get_or old (n - 1) last → IsCanonical old → fits_from (last_start_or 0 old) r ≡ true → r.0 ≤ last.1 + 1
    → end ≡ max last.1 r.1 → IsPushed old (set old (n - 1) (last.0, end)) r
pushed_onto_last old n last r end len some is h fits touches top =
    let front = front_last old n last len some is in
    let joined = joined_at_end (take (n - 1) old) last r (ap (rises_from 0) (sym front) ∙ h)
    (ap (λ l. fits_from (last_start_or 0 l) r) (sym front) ∙ fits) touches in
    rw (front_new old n (last.0, end) len some, top) (record {
      canonical = joined.canonical;
      members = λ c. joined.members c ∙ ap (λ l. in_ranges l c || in_range r c) (sym front);
      last = joined.last;
    })

-- a range that starts after a gap is added
pub pushed_after : (old new : List Range) (r : Range) → new ≡ old ++ r ∷ [] → IsCanonical old → next_free 0 old ≤ r.0
    → fits_from (last_start_or 0 old) r ≡ true → IsPushed old new r
pushed_after old new r is h free fits = rw is (added_at_end old r h free fits)

-- a range may follow the last one after a gap, and comes first where there is none
pub free_after_last : (old : List Range) (n : ℕ) (last : Range) → n ≡ length old → 0 < n
    → last ≡ get_or old (n - 1) last → next_free 0 old ≡ last.1 + 2
free_after_last old n last len some is = ap (next_free 0) (front_last old n last len some is) ∙ next_free-push 0 _ last

pub free_at_none : (old : List Range) → length old ≡ 0 → next_free 0 old ≡ 0
free_at_none old none = ap (next_free 0) (nil_from_length old none) ∙ next_free-nil 0
