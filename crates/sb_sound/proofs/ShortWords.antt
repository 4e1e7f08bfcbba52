-- The words of at most so many characters: the language of `mkrep any_character 0 n`.
use Rattle.std.proofs.Common.{◌≡◌, ℕ, zero, suc, ◌≤◌, Bool, true, false, ◌&&◌, ◌||◌, nat_le, List, [], ◌∷◌, length, refl, sym, ap, ◌∙◌, arith}
use Rattle.std.proofs.Math.Bool.{or-false}
use Rattle.std.proofs.lemmas.Bool.{and_parts, and_from, false≢true, leb-true, le-leb}
use Rattle.std.proofs.lemmas.Bool.Decides.{nat_tests}
use Rattle.sb_class.specs.Ranges.{in_range, in_ranges}
use Rattle.sb_word.specs.Words.{is_character, are_characters, IsWord}
use Rattle.sb_lang.specs.Languages.{Language, one_character, cut, power, repeat}
use Rattle.sb_lang.specs.LanguageLaws.{RepetitionIsSomePower}
use Rattle.sb_lang.specs.Constructors.{any_character, mkrep}
use Rattle.sb_lang.specs.ConstructorLaws.{MkrepKeepsLanguage}
use Rattle.sb_lang.specs.Language.{language}

-- tests that hold together are one
same_truth : (x y : Bool) → (x ≡ true → y ≡ true) → (y ≡ true → x ≡ true) → x ≡ y
same_truth true y to from = sym (to refl)
same_truth false true to from = from refl
same_truth false false to from = refl

-- no cut has its first part in the language of no word
cut_of_nothing : (M : Language) (w : List ℕ) → cut (λ u. false) M w ≡ false
unfolding cut
cut_of_nothing M [] = refl
cut_of_nothing M (c ∷ w) = cut_of_nothing M w

-- a word that begins with one character
cut_after_character : (test : ℕ → Bool) (c : ℕ) (M : Language) (w : List ℕ)
    → cut (λ u. one_character test (c ∷ u)) M w ≡ (test c && M w)
unfolding cut
cut_after_character test c M [] = refl
cut_after_character test c M (d ∷ w) =
    ap (λ b. (test c && M (d ∷ w)) || b) (cut_of_nothing M w) ∙ or-false (test c && M (d ∷ w))

power_of_character : (test : ℕ → Bool) (n c : ℕ) (w : List ℕ)
    → power (one_character test) (suc n) (c ∷ w) ≡ (test c && power (one_character test) n w)
unfolding power cut
power_of_character test n c w = cut_after_character test c (power (one_character test) n) w

power_zero : (test : ℕ → Bool) (c : ℕ) (w : List ℕ) → power (one_character test) zero (c ∷ w) ≡ false
unfolding power
power_zero test c w = refl

power_of_empty : (test : ℕ → Bool) (n : ℕ) → power (one_character test) (suc n) [] ≡ false
unfolding power cut
power_of_empty test n = refl

-- a power has the words of as many characters
length-of_power : (test : ℕ → Bool) (n : ℕ) (w : List ℕ) → power (one_character test) n w ≡ true → length w ≡ n
length-of_power test zero [] h = refl
length-of_power test zero (c ∷ w) h = absurd (false≢true (sym (power_zero test c w) ∙ h))
length-of_power test (suc n) [] h = absurd (false≢true (sym (power_of_empty test n) ∙ h))
length-of_power test (suc n) (c ∷ w) h =
    let parts = and_parts (test c) (power (one_character test) n w) (sym (power_of_character test n c w) ∙ h) in
    let rest = length-of_power test n w parts.1 in
    ap suc rest

a_character : (c : ℕ) → is_character c ≡ true → in_ranges ((0, 0x2ffff) ∷ []) c ≡ true
unfolding in_ranges in_range
a_character c h = grind (arith, nat_tests, h)

power_of_word : (w : List ℕ) → IsWord w → power (one_character (in_ranges ((0, 0x2ffff) ∷ []))) (length w) w ≡ true
unfolding power
power_of_word [] h = refl
power_of_word (c ∷ w) h =
    let parts = and_parts (is_character c) (are_characters w) h in
    power_of_character (in_ranges ((0, 0x2ffff) ∷ [])) (length w) c w
    ∙ and_from _ _ (a_character c parts.0) (power_of_word w parts.1)

repetition_of_characters : RepetitionIsSomePower → (n : ℕ) (w : List ℕ) → IsWord w
    → repeat (one_character (in_ranges ((0, 0x2ffff) ∷ []))) 0 n w ≡ nat_le (length w) n
repetition_of_characters law n w word =
    let L = one_character (in_ranges ((0, 0x2ffff) ∷ [])) in
    same_truth (repeat L 0 n w) (nat_le (length w) n)
    (λ h. let r = (law L 0 n w).0 h in
    let same : length w ≡ r.0 = length-of_power (in_ranges ((0, 0x2ffff) ∷ [])) r.0 w r.3 in
    le-leb (length w) n (at_most (length w) r.0 n same r.2))
    (λ h. (law L 0 n w).1 (length w, at_least (length w), leb-true (length w) n h, power_of_word w word))
  where
    at_most : (m k n : ℕ) → m ≡ k → k ≤ n → m ≤ n
    at_most m k n same le = omega arith

    at_least : (m : ℕ) → 0 ≤ m
    at_least m = omega arith

-- the laws of `mkrep` and of repetitions give the words up to a length
pub short_language : MkrepKeepsLanguage → RepetitionIsSomePower → (n : ℕ) (w : List ℕ) → IsWord w
    → language (mkrep any_character 0 n) w ≡ nat_le (length w) n
unfolding language
short_language kept law n w word = kept any_character 0 n w ∙ repetition_of_characters law n w word
