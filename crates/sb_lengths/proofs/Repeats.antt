-- The sums of any number of lengths, by one pass over the lengths.
use Rattle.std.proofs.Common.{◌≡◌, ℕ, zero, suc, ◌+◌, ◌-◌, ◌*◌, ◌/◌, ◌%◌, ◌^◌, ◌<◌, ◌≤◌, Bool, true, false, ◌==◌, inl, inr, nat_le, nat_lt, bit_or, bit_and, List, [], ◌∷◌, ◌++◌, length, take, drop, refl, sym, ap, ◌∙◌, arith, length-append, length-take, length-drop}
use Rattle.std.proofs.lemmas.Bool.{and_parts, and_from, or_cases, or_left, or_right, false≢true}
use Rattle.std.proofs.lemmas.List.{take-append-drop}
use Rattle.std.proofs.lemmas.Bool.Decides.{nat_tests}
use Rattle.sb_lang.specs.Languages.{Language, power, iterate}
use Rattle.sb_lang.specs.LanguageLaws.{CutIsSomeCut, IterationIsSomePower}
use Rattle.sb_lengths.specs.LengthSets.{has, of_lengths}
use Rattle.sb_lengths.proofs.Bits.{has_or, has_moved, has_tested, has_lowest, has_one_shifted, not_one}

-- each sum is of a repetition, and all lengths have been added to the sums below the place
pub record AreRepeats (lengths sums place : ℕ) : Type 0 where
  pub nothing : has sums 0 ≡ true
  pub closed : (i j : ℕ) → i < place → i + j < 64 → has sums i ≡ true → has lengths j ≡ true → has sums (i + j) ≡ true
  pub sound : (w : List ℕ) → length w < 64 → has sums (length w) ≡ true → iterate (of_lengths lengths) w ≡ true

-- one more word in front of some
iterate_more : CutIsSomeCut → IterationIsSomePower → (L : Language) (u v : List ℕ) → L u ≡ true → iterate L v ≡ true
    → iterate L (u ++ v) ≡ true
unfolding power
iterate_more cuts powers L u v h k =
    let p = (powers L v).0 k in
    (powers L (u ++ v)).1 (
      suc p.0,
      (cuts L (power L p.0) (u ++ v)).1
          (record { first = u; second = v; whole = refl; in_first = h; in_second = p.1 }),
    )

-- a repetition of the lengths has no word of characters of another length
only_nothing : IterationIsSomePower → (L : Language) (w : List ℕ) → length w ≡ 0 → iterate L w ≡ true
unfolding power
only_nothing powers L [] e = (powers L []).1 (zero, refl)
only_nothing powers L (c ∷ w) e = absurd (omega arith)

pub repeats_begun : IterationIsSomePower → (lengths : ℕ) → AreRepeats lengths 1 0
repeats_begun powers lengths = record {
  nothing = has_lowest 1;
  closed = λ i j l m h k. absurd (omega (arith, l));
  sound = λ w l h. only_nothing powers (of_lengths lengths) w (alone (length w) l h);
}
  where
    alone : (n : ℕ) → n < 64 → has 1 n ≡ true → n ≡ 0
    alone n l h =
        let e : (n == 0) ≡ true = sym (has_one_shifted 0 n (omega arith)) ∙ h in
        grind (arith, nat_tests)

-- what has been added at a place is above it
above : (lengths place n : ℕ) → n < 64 → has (lengths * 2 ^ place % 18446744073709551616) n ≡ true
    → (place ≤ n) × (has lengths (n - place) ≡ true)
above lengths place n l h =
    let p = and_parts (nat_le place n) (has lengths (n - place)) (sym (has_moved lengths place n l) ∙ h) in
    (leb_le place n p.0, p.1)
  where
    leb_le : (a b : ℕ) → nat_le a b ≡ true → a ≤ b
    leb_le a b e = grind (arith, nat_tests)

-- the word is cut where the place is left
iterate_at : CutIsSomeCut → IterationIsSomePower → (lengths place : ℕ) (w : List ℕ) → place ≤ length w
    → has lengths (length w - place) ≡ true
    → ((v : List ℕ) → length v ≡ place → iterate (of_lengths lengths) v ≡ true)
    → iterate (of_lengths lengths) w ≡ true
iterate_at cuts powers lengths place w le h rest =
    let n = length w - place in
    let front : length (take n w) ≡ n = grind (arith, length-take n w) in
    let back : length (drop n w) ≡ place = grind (arith, length-drop n w) in
    ap (iterate (of_lengths lengths)) (sym (take-append-drop n w))
    ∙ iterate_more cuts powers (of_lengths lengths) (take n w) (drop n w) (ap (has lengths) front ∙ h)
    (rest (drop n w) back)

pub repeats_added : CutIsSomeCut → IterationIsSomePower → (lengths sums place : ℕ) → place < 64
    → bit_and (sums / 2 ^ place) 1 ≡ 1 → AreRepeats lengths sums place
    → AreRepeats lengths (bit_or sums (lengths * 2 ^ place % 18446744073709551616)) (place + 1)
repeats_added cuts powers lengths sums place below there so_far = record {
  nothing = had zero so_far.nothing;
  closed = λ i j l m h k. closed i j (nat_lt i place) refl l m h k;
  sound = λ w l h. elim (or_cases _ _ (sym (has_or sums added (length w)) ∙ h)) [
    | inl old ↦ so_far.sound w l old
    | inr fresh ↦
        let p = above lengths place (length w) l fresh in
        iterate_at cuts powers lengths place w p.0 p.1
        (λ v e. so_far.sound v (omega (arith, e, below)) (ap (has sums) e ∙ here))
  ];
}
  where
    added : ℕ
    added = lengths * 2 ^ place % 18446744073709551616

    here : has sums place ≡ true
    here = has_tested sums place ∙ ap (λ x. x == 1) there

    had : (n : ℕ) → has sums n ≡ true → has (bit_or sums added) n ≡ true
    had n h = has_or sums added n ∙ or_left _ _ h

    old_below : (i : ℕ) → i < place → has (bit_or sums added) i ≡ true → has sums i ≡ true
    old_below i l h = elim (or_cases _ _ (sym (has_or sums added i) ∙ h)) [
      | inl old ↦ old
      | inr fresh ↦ absurd (omega (arith, l, (above lengths place i (omega (arith, l, below)) fresh).0))
    ]

    closed : (i j : ℕ) (b : Bool) → nat_lt i place ≡ b → i < place + 1 → i + j < 64
        → has (bit_or sums added) i ≡ true → has lengths j ≡ true → has (bit_or sums added) (i + j) ≡ true
    closed i j true is l m h k =
        let before : i < place = grind (arith, nat_tests) in
        had (i + j) (so_far.closed i j before m (old_below i before h) k)
    closed i j false is l m h k =
        let at : i ≡ place = grind (arith, nat_tests) in
        has_or sums added (i + j)
        ∙ or_right _ _ (has_moved lengths place (i + j) m
        ∙ and_from _ _ (grind (arith, nat_tests, at)) (ap (has lengths) (omega (arith, at)) ∙ k))

pub repeats_passed : (lengths sums place : ℕ) → (bit_and (sums / 2 ^ place) 1 ≡ 1 → ⊥)
    → AreRepeats lengths sums place → AreRepeats lengths sums (place + 1)
repeats_passed lengths sums place none so_far = record {
  nothing = so_far.nothing;
  closed = λ i j l m h k. so_far.closed i j (before i l h (nat_lt i place) refl) m h k;
  sound = so_far.sound;
}
  where
    before : (i : ℕ) → i < place + 1 → has sums i ≡ true → (b : Bool) → nat_lt i place ≡ b → i < place
    before i l h true is = grind (arith, nat_tests)
    before i l h false is =
        let at : i ≡ place = grind (arith, nat_tests) in
        absurd (false≢true
        (sym (not_one _ none) ∙ sym (has_tested sums place) ∙ ap (has sums) (sym at) ∙ h))

pub same_truth : (x y : Bool) → (x ≡ true → y ≡ true) → (y ≡ true → x ≡ true) → x ≡ y
same_truth true y to from = sym (to refl)
same_truth false true to from = from refl
same_truth false false to from = refl

each : CutIsSomeCut → (lengths sums place : ℕ) → 64 ≤ place → AreRepeats lengths sums place → (n : ℕ) (w : List ℕ)
    → length w < 64 → power (of_lengths lengths) n w ≡ true → has sums (length w) ≡ true
unfolding power
each cuts lengths sums place all so_far zero [] l h = so_far.nothing
each cuts lengths sums place all so_far zero (c ∷ w) l h = absurd (false≢true h)
each cuts lengths sums place all so_far (suc n) w l h =
    let k = (cuts (of_lengths lengths) (power (of_lengths lengths) n) w).0 h in
    let long : length k.second + length k.first ≡ length w =
    omega (arith, length-append k.first k.second, ap length k.whole) in
    let rest = each cuts lengths sums place all so_far n k.second (omega (arith, long, l)) k.in_second in
    ap (has sums) (sym long)
    ∙ so_far.closed (length k.second) (length k.first) (omega (arith, long, l, all)) (omega (arith, long, l)) rest
    k.in_first

pub repeats_done : CutIsSomeCut → IterationIsSomePower → (lengths sums place : ℕ) → 64 ≤ place
    → AreRepeats lengths sums place → (w : List ℕ) → length w < 64
    → of_lengths sums w ≡ iterate (of_lengths lengths) w
repeats_done cuts powers lengths sums place all so_far w l = same_truth _ _
    (λ h. so_far.sound w l h)
    (λ h. let p = (powers (of_lengths lengths) w).0 h in each cuts lengths sums place all so_far p.0 w l p.1)
