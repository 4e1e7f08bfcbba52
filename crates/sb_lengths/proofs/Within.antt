-- Languages within one another on short words, and what is made of them.
use Rattle.std.proofs.Common.{◌≡◌, ℕ, zero, suc, ◌+◌, ◌<◌, Bool, true, false, ◌||◌, inl, inr, nat_le, nat_lt, List, [], ◌∷◌, ◌++◌, length, refl, sym, ap, ◌∙◌, arith, length-append}
use Rattle.std.proofs.lemmas.Bool.{and_parts, and_from, or_cases, or_right}
use Rattle.std.proofs.lemmas.Bool.Decides.{nat_tests}
use Rattle.sb_word.specs.Words.{is_character, are_characters, IsWord}
use Rattle.sb_lang.specs.Languages.{Language, cut, power, iterate, repeat}
use Rattle.sb_lang.specs.LanguageLaws.{CutIsSomeCut, IterationIsSomePower, RepetitionIsSomePower}
use Rattle.sb_lengths.specs.declared.Lengths.{Lengths}
use Rattle.sb_lengths.specs.LengthSets.{has, of_lengths}
use Rattle.sb_lengths.specs.Lengths.{may, AreLengths}

-- each short word of the one is in the other
abbrev pub Within : Language → Language → Type 0
Within L M = (w : List ℕ) → IsWord w → length w < 64 → L w ≡ true → M w ≡ true

words : (u v : List ℕ) → IsWord (u ++ v) → IsWord u × IsWord v
words [] v h = (refl, h)
words (c ∷ u) v h =
    let p = and_parts (is_character c) (are_characters (u ++ v)) h in
    let q = words u v p.1 in
    (and_from _ _ p.0 q.0, q.1)

pub cut_within : CutIsSomeCut → (L L' M M' : Language) → Within L L' → Within M M' → Within (cut L M) (cut L' M')
cut_within cuts L L' M M' l m w word short h =
    let k = (cuts L M w).0 h in
    let both = words k.first k.second (ap are_characters k.whole ∙ word) in
    let long : length k.first + length k.second ≡ length w =
    omega (arith, length-append k.first k.second, ap length k.whole) in
    (cuts L' M' w).1
    (record {
      first = k.first;
      second = k.second;
      whole = k.whole;
      in_first = l k.first both.0 (omega (arith, long, short)) k.in_first;
      in_second = m k.second both.1 (omega (arith, long, short)) k.in_second;
    })

power_within : CutIsSomeCut → (L L' : Language) → Within L L' → (n : ℕ) → Within (power L n) (power L' n)
unfolding power
power_within cuts L L' l zero w word short h = h
power_within cuts L L' l (suc n) w word short h =
    cut_within cuts L L' (power L n) (power L' n) l (power_within cuts L L' l n) w word short h

pub iterate_within : CutIsSomeCut → IterationIsSomePower → (L L' : Language) → Within L L'
    → Within (iterate L) (iterate L')
iterate_within cuts powers L L' l w word short h =
    let p = (powers L w).0 h in
    (powers L' w).1 (p.0, power_within cuts L L' l p.0 w word short p.1)

pub repeat_within : CutIsSomeCut → RepetitionIsSomePower → (L L' : Language) (n m : ℕ) → Within L L'
    → Within (repeat L n m) (repeat L' n m)
repeat_within cuts law L L' n m l w word short h =
    let p = (law L n m w).0 h in
    (law L' n m w).1 (p.0, p.1, p.2, power_within cuts L L' l p.0 w word short p.3)

-- what is said of lengths, on short words
pub possible_gives : (lengths : Lengths) (L : Language) → AreLengths lengths L
    → Within L (of_lengths lengths.possible)
possible_gives lengths L are w word short h =
    elim (or_cases (nat_le 64 (length w)) (has lengths.possible (length w)) (are.possible w word h)) [
      | inl long ↦ absurd (grind (arith, nat_tests, long, short))
      | inr has_it ↦ has_it
    ]

pub certain_gives : (lengths : Lengths) (L : Language) → AreLengths lengths L
    → Within (of_lengths lengths.certain) L
certain_gives lengths L are w word short h =
    are.certain w word (and_from _ _ (grind (arith, nat_tests, short)) h)

pub lengths_from : (lengths : Lengths) (L : Language) → Within L (of_lengths lengths.possible)
    → Within (of_lengths lengths.certain) L → AreLengths lengths L
lengths_from lengths L possible certain = record {
  possible = λ w word h. step w word h (nat_le 64 (length w)) refl;
  certain = λ w word h.
      let p = and_parts (nat_lt (length w) 64) (has lengths.certain (length w)) h in
      certain w word (below (length w) p.0) p.1;
}
  where
    below : (n : ℕ) → nat_lt n 64 ≡ true → n < 64
    below n h = grind (arith, nat_tests)

    step : (w : List ℕ) → IsWord w → L w ≡ true → (b : Bool) → nat_le 64 (length w) ≡ b
        → may lengths (length w) ≡ true
    step w word h true is = ap (λ b. b || has lengths.possible (length w)) is
    step w word h false is = or_right _ _ (possible w word (grind (arith, nat_tests)) h)

within_same : (L M N : Language) → Within L M → ((w : List ℕ) → length w < 64 → N w ≡ M w) → Within L N
within_same L M N l e w word short h = e w short ∙ l w word short h

same_within : (L M N : Language) → Within M L → ((w : List ℕ) → length w < 64 → N w ≡ M w) → Within N L
same_within L M N l e w word short h = l w word short (sym (e w short) ∙ h)

pub cat_lengths : CutIsSomeCut → (a b c : Lengths)
    → ((w : List ℕ) → length w < 64 → of_lengths c.possible w ≡ cut (of_lengths a.possible) (of_lengths b.possible) w)
    → ((w : List ℕ) → length w < 64 → of_lengths c.certain w ≡ cut (of_lengths a.certain) (of_lengths b.certain) w)
    → (L M : Language) → AreLengths a L → AreLengths b M → AreLengths c (cut L M)
cat_lengths cuts a b c possible certain L M l m =
    lengths_from c (cut L M)
    (within_same _ _ _ (cut_within cuts _ _ _ _ (possible_gives a L l) (possible_gives b M m)) possible)
    (same_within _ _ _ (cut_within cuts _ _ _ _ (certain_gives a L l) (certain_gives b M m)) certain)

pub star_lengths : CutIsSomeCut → IterationIsSomePower → (a c : Lengths)
    → ((w : List ℕ) → length w < 64 → of_lengths c.possible w ≡ iterate (of_lengths a.possible) w)
    → ((w : List ℕ) → length w < 64 → of_lengths c.certain w ≡ iterate (of_lengths a.certain) w)
    → (L : Language) → AreLengths a L → AreLengths c (iterate L)
star_lengths cuts powers a c possible certain L l =
    lengths_from c (iterate L)
    (within_same _ _ _ (iterate_within cuts powers _ _ (possible_gives a L l)) possible)
    (same_within _ _ _ (iterate_within cuts powers _ _ (certain_gives a L l)) certain)

pub repeat_lengths : CutIsSomeCut → RepetitionIsSomePower → (n m : ℕ) (a c : Lengths)
    → ((w : List ℕ) → length w < 64 → of_lengths c.possible w ≡ repeat (of_lengths a.possible) n m w)
    → ((w : List ℕ) → length w < 64 → of_lengths c.certain w ≡ repeat (of_lengths a.certain) n m w)
    → (L : Language) → AreLengths a L → AreLengths c (repeat L n m)
repeat_lengths cuts law n m a c possible certain L l =
    lengths_from c (repeat L n m)
    (within_same _ _ _ (repeat_within cuts law _ _ n m (possible_gives a L l)) possible)
    (same_within _ _ _ (repeat_within cuts law _ _ n m (certain_gives a L l)) certain)
