-- The sums of so many lengths, by one pass over the counts up to 64: above that one word more makes no difference.
use Rattle.std.proofs.Common.{◌≡◌, ℕ, zero, suc, ◌+◌, ◌-◌, ◌<◌, ◌≤◌, min, Bool, true, false, ◌&&◌, ◌||◌, ◌==◌, inl, inr, nat_le, nat_lt, List, [], ◌∷◌, ◌++◌, length, refl, sym, ap, ap₂, ◌∙◌, arith, length-append}
use Rattle.std.proofs.lemmas.Bool.{and_parts, or_cases, or_left, or_right}
use Rattle.std.proofs.lemmas.Bool.Decides.{nat_tests}
use Rattle.sb_lang.specs.Languages.{Language, cut, power, repeat}
use Rattle.sb_lang.specs.LanguageLaws.{CutIsSomeCut, RepetitionIsSomePower}
use Rattle.sb_lengths.specs.LengthSets.{has, of_lengths}
use Rattle.sb_lengths.proofs.Repeats.{same_truth}

-- the lengths of so many words, as far as they are below 64
abbrev pub IsPower : ℕ → ℕ → ℕ → Type 0
IsPower lengths n these =
    (w : List ℕ) → length w < 64 → of_lengths these w ≡ power (of_lengths lengths) n w

pub power_begun : (lengths these : ℕ) → ((n : ℕ) → has these n ≡ (n == 0)) → IsPower lengths 0 these
unfolding power
power_begun lengths these alone [] l = alone 0
power_begun lengths these alone (c ∷ w) l = alone (suc (length w)) ∙ grind (arith, nat_tests)

cut_same : (L M N : Language) → ((w : List ℕ) → length w < 64 → M w ≡ N w) → (w : List ℕ) → length w < 64
    → cut L M w ≡ cut L N w
unfolding cut
cut_same L M N e [] l = ap (λ b. L [] && b) (e [] l)
cut_same L M N e (c ∷ w) l =
    ap₂ (λ b d. (L [] && b) || d) (e (c ∷ w) l) (cut_same (λ u. L (c ∷ u)) M N e w (omega (arith, l)))

pub power_next : (lengths these next n : ℕ)
    → ((w : List ℕ) → length w < 64 → of_lengths next w ≡ cut (of_lengths lengths) (of_lengths these) w)
    → IsPower lengths n these → IsPower lengths (n + 1) next
unfolding power
power_next lengths these next n sums so_far w l =
    let e : suc n ≡ n + 1 = omega arith in
    sums w l ∙ cut_same (of_lengths lengths) (of_lengths these) (power (of_lengths lengths) n) so_far w l
    ∙ ap (λ i. power (of_lengths lengths) i w) e

-- More words than the whole is long have an empty one among them, so there is one less of them.

one_less : CutIsSomeCut → (L : Language) (k : ℕ) (u v w : List ℕ)
    → (length v ≤ k → power L (suc k) v ≡ true → (L [] ≡ true) × (power L k v ≡ true)) → length w ≤ suc k → u ++ v ≡ w
    → L u ≡ true → power L (suc k) v ≡ true → (L [] ≡ true) × (power L (suc k) w ≡ true)
unfolding power
one_less cuts L k [] v w rest le e h g = (h, ap (power L (suc k)) (sym e) ∙ g)
one_less cuts L k (c ∷ u) v w rest le e h g =
    let r = rest (omega (arith, le, length-append (c ∷ u) v, ap length e)) g in
    (r.0, (cuts L (power L k) w).1 (record { first = c ∷ u; second = v; whole = e; in_first = h; in_second = r.1 }))

fewer : CutIsSomeCut → (L : Language) (k : ℕ) (w : List ℕ) → length w ≤ k → power L (suc k) w ≡ true
    → (L [] ≡ true) × (power L k w ≡ true)
unfolding power cut
fewer cuts L zero [] le h = ((and_parts (L []) true h).0, refl)
fewer cuts L zero (c ∷ w) le h = absurd (omega (arith, le))
fewer cuts L (suc k) w le h =
    let p = (cuts L (power L (suc k)) w).0 h in
    one_less cuts L k p.first p.second w (fewer cuts L k p.second) le p.whole p.in_first p.in_second

all_fewer : CutIsSomeCut → (L : Language) (n k : ℕ) (w : List ℕ) → length w ≤ k → power L (n + k) w ≡ true
    → power L k w ≡ true
all_fewer cuts L zero k w le h =
    let e : k ≡ 0 + k = omega arith in
    ap (λ i. power L i w) e ∙ h
all_fewer cuts L (suc n) k w le h =
    let e : suc (n + k) ≡ suc n + k = omega arith in
    all_fewer cuts L n k w le (fewer cuts L (n + k) w (omega (arith, le)) (ap (λ i. power L i w) e ∙ h)).1

more_of : CutIsSomeCut → (L : Language) (n k : ℕ) (w : List ℕ) → L [] ≡ true → power L k w ≡ true
    → power L (n + k) w ≡ true
unfolding power
more_of cuts L zero k w e h =
    let z : 0 + k ≡ k = omega arith in
    ap (λ i. power L i w) z ∙ h
more_of cuts L (suc n) k w e h =
    let s : suc n + k ≡ suc (n + k) = omega arith in
    ap (λ i. power L i w) s
    ∙ (cuts L (power L (n + k)) w).1
    (record { first = []; second = w; whole = refl; in_first = e; in_second = more_of cuts L n k w e h })

down_to_64 : CutIsSomeCut → (L : Language) (n : ℕ) (w : List ℕ) → 64 ≤ n → length w < 64 → power L n w ≡ true
    → power L 64 w ≡ true
down_to_64 cuts L n w m l h =
    let e : n ≡ (n - 64) + 64 = omega (arith, m) in
    all_fewer cuts L (n - 64) 64 w (omega (arith, l)) (ap (λ i. power L i w) (sym e) ∙ h)

up_from_64 : CutIsSomeCut → (L : Language) (n : ℕ) (w : List ℕ) → 64 ≤ n → length w < 64 → power L 64 w ≡ true
    → power L n w ≡ true
up_from_64 cuts L n w m l h =
    let e : n ≡ (n - 64) + 64 = omega (arith, m) in
    let nothing = (fewer cuts L 63 w (omega (arith, l)) h).0 in
    ap (λ i. power L i w) e ∙ more_of cuts L (n - 64) 64 w nothing h

-- the lengths of so many words, from the first count up to the place
pub record ArePowers (lengths sums these first place : ℕ) : Type 0 where
  pub at : IsPower lengths place these
  pub in_order : first ≤ place
  pub sound : (w : List ℕ) → length w < 64 → has sums (length w) ≡ true →
      (k : ℕ) × (first ≤ k) × (k ≤ place) × (power (of_lengths lengths) k w ≡ true)
  pub each : (k : ℕ) (w : List ℕ) → length w < 64 → first ≤ k → k ≤ place → power (of_lengths lengths) k w ≡ true
      → has sums (length w) ≡ true

pub powers_begun : (lengths these first : ℕ) → IsPower lengths first these
    → ArePowers lengths these these first first
powers_begun lengths these first is = record {
  at = is;
  in_order = omega arith;
  sound = λ w l h. (first, omega arith, omega arith, sym (is w l) ∙ h);
  each = λ k w l low high h.
      let e : first ≡ k = omega (arith, low, high) in
      is w l ∙ ap (λ i. power (of_lengths lengths) i w) e ∙ h;
}

pub powers_added : (lengths sums these next more_sums first place : ℕ)
    → ((w : List ℕ) → length w < 64 → of_lengths next w ≡ cut (of_lengths lengths) (of_lengths these) w)
    → ((n : ℕ) → has more_sums n ≡ (has sums n || has next n)) → ArePowers lengths sums these first place
    → ArePowers lengths more_sums next first (place + 1)
powers_added lengths sums these next more_sums first place cuts either so_far = record {
  at = after;
  in_order = omega (arith, so_far.in_order);
  sound = λ w l h. elim (or_cases _ _ (sym (either (length w)) ∙ h)) [
    | inl old ↦ let p = so_far.sound w l old in (p.0, p.1, omega (arith, p.2), p.3)
    | inr fresh ↦ (place + 1, omega (arith, so_far.in_order), omega arith, sym (after w l) ∙ fresh)
  ];
  each = λ k w l low high h. step k w l low high h (nat_le k place) refl;
}
  where
    after : IsPower lengths (place + 1) next
    after = power_next lengths these next place cuts so_far.at

    step : (k : ℕ) (w : List ℕ) → length w < 64 → first ≤ k → k ≤ place + 1
        → power (of_lengths lengths) k w ≡ true → (b : Bool) → nat_le k place ≡ b → has more_sums (length w) ≡ true
    step k w l low high h true is =
        let m : k ≤ place = grind (arith, nat_tests) in
        either (length w) ∙ or_left _ _ (so_far.each k w l low m h)
    step k w l low high h false is =
        let e : place + 1 ≡ k = grind (arith, nat_tests) in
        either (length w)
        ∙ or_right _ _ (after w l ∙ ap (λ i. power (of_lengths lengths) i w) e ∙ h)

pub powers_done : CutIsSomeCut → RepetitionIsSomePower → (lengths sums these least most : ℕ) → least ≤ most
    → ArePowers lengths sums these (min least 64) (min most 64) → (w : List ℕ) → length w < 64
    → of_lengths sums w ≡ repeat (of_lengths lengths) least most w
powers_done cuts law lengths sums these least most le all w l = same_truth _ _
    (λ h. let p = all.sound w l h in to p.0 p.1 p.2 p.3 (nat_lt p.0 64) refl)
    (λ h. let p = (law (of_lengths lengths) least most w).0 h in from p.0 p.1 p.2 p.3 (nat_le p.0 64) refl)
  where
    to : (k : ℕ) → min least 64 ≤ k → k ≤ min most 64 → power (of_lengths lengths) k w ≡ true → (b : Bool)
        → nat_lt k 64 ≡ b → repeat (of_lengths lengths) least most w ≡ true
    to k low high h true is =
        let m : k < 64 = grind (arith, nat_tests) in
        (law (of_lengths lengths) least most w).1 (k, omega (arith, low, m), omega (arith, high), h)
    to k low high h false is =
        let m : 64 ≤ k = grind (arith, nat_tests) in
        let e : k ≡ 64 = omega (arith, m, high) in
        (law (of_lengths lengths) least most w).1 (
          most,
          le,
          omega arith,
          up_from_64 cuts (of_lengths lengths) most w (omega (arith, m, high)) l
              (ap (λ i. power (of_lengths lengths) i w) (sym e) ∙ h),
        )

    from : (k : ℕ) → least ≤ k → k ≤ most → power (of_lengths lengths) k w ≡ true → (b : Bool)
        → nat_le k 64 ≡ b → has sums (length w) ≡ true
    from k low high h true is =
        let m : k ≤ 64 = grind (arith, nat_tests) in
        all.each k w l (omega (arith, low)) (omega (arith, high, m)) h
    from k low high h false is =
        let m : 64 ≤ k = grind (arith, nat_tests) in
        all.each 64 w l (omega arith) (omega (arith, m, high)) (down_to_64 cuts (of_lengths lengths) k w m l h)
