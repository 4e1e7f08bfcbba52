-- Laws that tie the tests on words to what they say.
use Rattle.std.specs.Prelude.{◌≡◌, ◌↔◌, ℕ, ◌≤◌, true, List, ◌++◌}
use Rattle.sb_lang.specs.Languages.{Language, cut, power, iterate, repeat}

-- a cut of the word with its first part in L and its second in M
pub record HasCut (L M : Language) (w : List ℕ) : Type 0 where
  pub first : List ℕ
  pub second : List ℕ
  pub whole : first ++ second ≡ w
  pub in_first : L first ≡ true
  pub in_second : M second ≡ true

abbrev pub CutIsSomeCut : Type 0
CutIsSomeCut = (L M : Language) (w : List ℕ) → (cut L M w ≡ true) ↔ HasCut L M w

-- any number of times, not only up to the word's length
abbrev pub IterationIsSomePower : Type 0
IterationIsSomePower = (L : Language) (w : List ℕ) → (iterate L w ≡ true) ↔ ((n : ℕ) × (power L n w ≡ true))

abbrev pub RepetitionIsSomePower : Type 0
RepetitionIsSomePower =
    (L : Language) (n m : ℕ) (w : List ℕ)
    → (repeat L n m w ≡ true) ↔ ((k : ℕ) × (n ≤ k) × (k ≤ m) × (power L k w ≡ true))
