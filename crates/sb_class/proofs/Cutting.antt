-- The cuts of a set, from its ranges.
use Rattle.std.proofs.Common.{◌≡◌, ◌≢◌, ℕ, zero, suc, ◌+◌, ◌-◌, ◌<◌, ◌≤◌, ◌||◌, ◌&&◌, ◌==◌, not, nat_lt, cond, Bool, true, false, List, [], ◌∷◌, ◌++◌, length, get_or, refl, sym, ap, ap₂, ◌∙◌, arith, inl, inr, le_of_suc-le-suc, not-suc-le-zero, add-one, append-nil, append_assoc}
use Rattle.std.specs.List.{Contains}
use Rattle.std.specs.List.Sorted.{IsStrictlyIncreasing}
use Rattle.std.proofs.lemmas.Bool.{and_parts, and_from, or_cases, both_ways, eqb-true, eq-eqb, lt-ltb, le-ltb}
use Rattle.std.proofs.lemmas.Bool.Decides.{nat_tests}
use Rattle.std.proofs.lemmas.List.Recursion.{or_at}
use Rattle.sb_class.specs.Ranges.{Range, in_range, in_ranges, rises_from, IsCanonical, IsCut, AreCuts}
use Rattle.sb_word.specs.Words.{is_character}
use Rattle.sb_class.proofs.RangeFacts.{in_range_tells, in_ranges-nil, in_ranges-cons, rises_from-parts, members_from}

-- the start of the range, but for 0
abbrev pub start_cut : Range → List ℕ
start_cut r = cond (nat_lt 0 r.0) (r.0 ∷ []) []

-- the character after the range, if there is one
abbrev pub end_cut : Range → List ℕ
end_cut r = cond (nat_lt r.1 0x2ffff) ((r.1 + 1) ∷ []) []

-- the cuts of the ranges in turn
unfoldable pub cuts_of : List Range → List ℕ
cuts_of [] = []
cuts_of (r ∷ rs) = start_cut r ++ (end_cut r ++ cuts_of rs)

pub cuts_of-nil : cuts_of [] ≡ []
unfolding cuts_of
cuts_of-nil = refl

pub cuts_of-cons : (r : Range) (rs : List Range) → cuts_of (r ∷ rs) ≡ start_cut r ++ (end_cut r ++ cuts_of rs)
unfolding cuts_of
cuts_of-cons r rs = refl

-- the start of a range is written, but for 0
pub start_written : (old new : List ℕ) (r : Range) → 0 < r.0 → new ≡ old ++ r.0 ∷ [] → new ≡ old ++ start_cut r
start_written old new r some is = is ∙ ap (λ b. old ++ cond b (r.0 ∷ []) []) (sym (lt-ltb 0 r.0 some))

pub start_left_out : (old : List ℕ) (r : Range) → r.0 ≤ 0 → old ≡ old ++ start_cut r
start_left_out old r none = sym (append-nil old) ∙ ap (λ b. old ++ cond b (r.0 ∷ []) []) (sym (le-ltb 0 r.0 none))

-- the character after a range is written, if there is one
pub end_written : (old new : List ℕ) (r : Range) → r.1 < 0x2ffff → new ≡ old ++ (r.1 + 1) ∷ [] → new ≡ old ++ end_cut r
end_written old new r some is = is ∙ ap (λ b. old ++ cond b ((r.1 + 1) ∷ []) []) (sym (lt-ltb r.1 0x2ffff some))

pub end_left_out : (old : List ℕ) (r : Range) → 0x2ffff ≤ r.1 → old ≡ old ++ end_cut r
end_left_out old r none =
    sym (append-nil old) ∙ ap (λ b. old ++ cond b ((r.1 + 1) ∷ []) []) (sym (le-ltb r.1 0x2ffff none))

-- one more range
pub cuts_more : (old started new all : List ℕ) (r : Range) (rs : List Range) → started ≡ old ++ start_cut r
    → new ≡ started ++ end_cut r → old ++ cuts_of (r ∷ rs) ≡ all → new ++ cuts_of rs ≡ all
cuts_more old started new all r rs first second is =
    ap (λ l. l ++ cuts_of rs) (second ∙ ap (λ l. l ++ end_cut r) first)
    ∙ append_assoc (old ++ start_cut r) (end_cut r) (cuts_of rs)
    ∙ append_assoc old (start_cut r) (end_cut r ++ cuts_of rs)
    ∙ ap (λ l. old ++ l) (sym (cuts_of-cons r rs)) ∙ is

-- whether the number is in the list
unfoldable listed : List ℕ → ℕ → Bool
listed [] c = false
listed (x ∷ xs) c = (x == c) || listed xs c

listed-append_maybe : (b : Bool) (x : ℕ) (xs : List ℕ) (c : ℕ)
    → listed (cond b (x ∷ []) [] ++ xs) c ≡ ((b && (x == c)) || listed xs c)
unfolding listed
listed-append_maybe true x xs c = refl
listed-append_maybe false x xs c = refl

listed-from : (xs : List ℕ) (k c : ℕ) → k < length xs → get_or xs k c ≡ c → listed xs c ≡ true
unfolding listed
listed-from xs k c h is = or_at (λ l. listed l c) (λ x. x == c) refl (λ _ _. refl) xs k c h (eq-eqb _ _ is)

Contains-from_listed : (xs : List ℕ) (c : ℕ) → listed xs c ≡ true → Contains xs c
unfolding listed
Contains-from_listed [] c h = absurd (both_ways false refl h)
Contains-from_listed (x ∷ xs) c h = elim (or_cases (x == c) (listed xs c) h) [
  | inl here ↦ (0, omega arith, eqb-true x c here)
  | inr there ↦ let rest = Contains-from_listed xs c there in (suc rest.0, omega (arith, rest.1), rest.2)
]

-- one of the two, and not both
abbrev differ : Bool → Bool → Bool
differ true y = not y
differ false y = y

-- the test of a cut
abbrev cuts_at : List Range → ℕ → Bool
cuts_at rs c = nat_lt 0 c && (is_character c && differ (in_ranges rs c) (in_ranges rs (c - 1)))

cut_step : (r : Range) (c : ℕ) (at before : Bool) → r.0 ≤ r.1 → r.1 ≤ 0x2ffff → (at ≡ true → r.1 + 2 ≤ c)
    → (before ≡ true → r.1 + 2 ≤ c - 1) →
    ((nat_lt 0 r.0 && (r.0 == c))
    || ((nat_lt r.1 0x2ffff && ((r.1 + 1) == c)) || (nat_lt 0 c && (is_character c && differ at before))))
    ≡ (nat_lt 0 c && (is_character c && differ (in_range r c || at) (in_range r (c - 1) || before)))
cut_step r c true true le within h h' =
    grind (arith, nat_tests, in_range_tells r c, in_range_tells r (c - 1), h refl, h' refl)
cut_step r c true false le within h h' = grind (arith, nat_tests, in_range_tells r c, in_range_tells r (c - 1), h refl)
cut_step r c false true le within h h' = grind (arith, nat_tests, in_range_tells r c, in_range_tells r (c - 1), h' refl)
cut_step r c false false le within h h' = grind (arith, nat_tests, in_range_tells r c, in_range_tells r (c - 1))

no_cuts : (c : ℕ) → false ≡ cuts_at [] c
no_cuts c = grind (arith, nat_tests, in_ranges-nil c, in_ranges-nil (c - 1))

listed-cuts_of : (n : ℕ) (rs : List Range) (c : ℕ) → rises_from n rs ≡ true → listed (cuts_of rs) c ≡ cuts_at rs c
unfolding cuts_of listed
listed-cuts_of n [] c h = no_cuts c
listed-cuts_of n (r ∷ rs) c h =
    let p = rises_from-parts n r rs h in
    listed-append_maybe (nat_lt 0 r.0) r.0 (end_cut r ++ cuts_of rs) c
    ∙ ap (λ x. (nat_lt 0 r.0 && (r.0 == c)) || x) (listed-append_maybe (nat_lt r.1 0x2ffff) (r.1 + 1) (cuts_of rs) c
    ∙ ap (λ x. (nat_lt r.1 0x2ffff && ((r.1 + 1) == c)) || x) (listed-cuts_of (r.1 + 2) rs c p.3))
    ∙ cut_step r c (in_ranges rs c) (in_ranges rs (c - 1)) p.1 p.2 (members_from _ rs c p.3)
    (members_from _ rs (c - 1) p.3)
    ∙ ap₂ (λ x y. nat_lt 0 c && (is_character c && differ x y)) (sym (in_ranges-cons r rs c))
    (sym (in_ranges-cons r rs (c - 1)))

differ-true : (x y : Bool) → differ x y ≡ true → x ≢ y
differ-true true true h = λ _. both_ways false refl h
differ-true true false h = λ e. both_ways false refl (sym e)
differ-true false true h = λ e. both_ways false refl e
differ-true false false h = λ _. both_ways false refl h

true-differ : (x y : Bool) → x ≢ y → differ x y ≡ true
true-differ true true h = absurd (h refl)
true-differ true false h = refl
true-differ false true h = refl
true-differ false false h = absurd (h refl)

IsCut-from_test : (rs : List Range) (c : ℕ) → cuts_at rs c ≡ true → IsCut rs c
IsCut-from_test rs c h =
    let p = and_parts (nat_lt 0 c) _ h in
    let q = and_parts (is_character c) _ p.1 in record {
      positive = grind (arith, nat_tests, p.0);
      character = q.0;
      differs = differ-true _ _ q.1;
    }

test_from_IsCut : (rs : List Range) (c : ℕ) → IsCut rs c → cuts_at rs c ≡ true
test_from_IsCut rs c h =
    let positive : nat_lt 0 c ≡ true = grind (arith, nat_tests, h.positive) in
    and_from _ _ positive (and_from _ _ h.character (true-differ _ _ h.differs))

-- each number is above the one before, and the first at least the number
unfoldable Climbs : ℕ → List ℕ → Type 0
Climbs n [] = Unit {0}
Climbs n (x ∷ xs) = (n ≤ x) × Climbs (x + 1) xs

Climbs-weaker : (n m : ℕ) (xs : List ℕ) → m ≤ n → Climbs n xs → Climbs m xs
unfolding Climbs
Climbs-weaker n m [] le h = tt
Climbs-weaker n m (x ∷ xs) le h = (omega (arith, h.0), h.1)

Climbs-maybe : (n : ℕ) (b : Bool) (x : ℕ) (xs : List ℕ) → n ≤ x → Climbs (x + 1) xs
    → Climbs n (cond b (x ∷ []) [] ++ xs)
unfolding Climbs
Climbs-maybe n true x xs le h = (le, h)
Climbs-maybe n false x xs le h = Climbs-weaker (x + 1) n xs (omega arith) h

Climbs-cuts_of : (n : ℕ) (rs : List Range) → rises_from n rs ≡ true → Climbs n (cuts_of rs)
unfolding cuts_of Climbs
Climbs-cuts_of n [] h = tt
Climbs-cuts_of n (r ∷ rs) h =
    let p = rises_from-parts n r rs h in
    let rest : Climbs (r.1 + 1 + 1) (cuts_of rs) =
    Climbs-weaker (r.1 + 2) (r.1 + 1 + 1) (cuts_of rs) (omega arith) (Climbs-cuts_of (r.1 + 2) rs p.3) in
    Climbs-maybe n (nat_lt 0 r.0) r.0 (end_cut r ++ cuts_of rs) p.0
    (Climbs-maybe (r.0 + 1) (nat_lt r.1 0x2ffff) (r.1 + 1) (cuts_of rs) (omega arith) rest)

climbs_at : (n : ℕ) (xs : List ℕ) (k : ℕ) → Climbs n xs → suc k < length xs → get_or xs k 0 < get_or xs (suc k) 0
unfolding Climbs
climbs_at n [] k h lt = absurd (not-suc-le-zero lt)
climbs_at n (x ∷ []) k h lt = absurd (not-suc-le-zero (le_of_suc-le-suc lt))
climbs_at n (x ∷ y ∷ ys) zero h lt = omega (arith, h.1.0)
climbs_at n (x ∷ y ∷ ys) (suc k) h lt = climbs_at (x + 1) (y ∷ ys) k h.1 (le_of_suc-le-suc lt)

IsStrictlyIncreasing-from_climbs : (n : ℕ) (xs : List ℕ) → Climbs n xs → IsStrictlyIncreasing xs
IsStrictlyIncreasing-from_climbs n xs h = λ k lt. rw add-one (climbs_at n xs k h (omega arith))

pub AreCuts-cuts_of : (rs : List Range) → IsCanonical rs → AreCuts rs (cuts_of rs)
AreCuts-cuts_of rs h = record {
  ascending = IsStrictlyIncreasing-from_climbs 0 _ (Climbs-cuts_of 0 rs h);
  sound = λ c has. IsCut-from_test rs c (sym (listed-cuts_of 0 rs c h) ∙ listed-from _ has.0 c has.1 has.2);
  complete = λ c cut. Contains-from_listed _ c (listed-cuts_of 0 rs c h ∙ test_from_IsCut rs c cut);
}
