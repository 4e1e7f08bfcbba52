-- Words and ranges.
use Rattle.std.proofs.Common.{◌≡◌, ℕ, ◌≤◌, ◌<◌, true, false, nat_le, if◌then◌else◌, List, [], ◌∷◌, length, get_or, refl, sym, ap, ◌∙◌, arith, Result, IfOk}
use Rattle.std.proofs.lemmas.Bool.{and_parts}
use Rattle.std.proofs.lemmas.Bool.Decides.{nat_tests}
use Rattle.sb_class.proofs.CallerLemmas.{in_ranges-one}
use Rattle.sb_class.specs.Ranges.{Range, in_range, in_ranges, rises_from, IsCanonical}
use Rattle.sb_lang.specs.Regex.{Regex, none, set}
use Rattle.sb_lang.specs.Constructors.{any_character, mkset}
use Rattle.sb_lang.specs.Normal.{range_regex}
use Rattle.sb_regex.specs.Numbered.{Names}
use Rattle.sb_word.specs.Words.{IsWord, is_character, are_characters}

-- what is named by a regex that is the same
pub named : {E : Type 0} (rs : List Regex) (found : Result ℕ E) (r s : Regex) → s ≡ r → IfOk found (λ id. Names rs id r)
    → IfOk found (λ id. Names rs id s)
named rs found r s is h = rw is h

pub first_not_one : (from to : List ℕ) → (length from ≡ 1 → ⊥) → range_regex from to ≡ none
unfolding range_regex
first_not_one [] to h = refl
first_not_one (a ∷ []) to h = absurd (h refl)
first_not_one (a ∷ d ∷ from) to h = refl

pub second_not_one : (from to : List ℕ) → (length to ≡ 1 → ⊥) → range_regex from to ≡ none
unfolding range_regex
second_not_one [] to h = refl
second_not_one (a ∷ []) [] h = refl
second_not_one (a ∷ []) (b ∷ []) h = absurd (h refl)
second_not_one (a ∷ []) (b ∷ d ∷ to) h = refl
second_not_one (a ∷ d ∷ from) to h = refl

two_alone : (a b : ℕ) → range_regex (a ∷ []) (b ∷ []) ≡ (if nat_le a b then set ((a, b) ∷ []) else none)
unfolding range_regex
two_alone a b = refl

-- from the first character to the last
pub each_character : any_character ≡ range_regex (0 ∷ []) (0x2ffff ∷ [])
unfolding range_regex
each_character = refl

pub reversed : (from to : List ℕ) → 1 ≤ length from → length from < 2 → 1 ≤ length to → length to < 2
    → get_or to 0 0 < get_or from 0 0 → range_regex from to ≡ none
reversed [] to low high low' high' h = absurd (omega arith)
reversed (a ∷ []) [] low high low' high' h = absurd (omega arith)
reversed (a ∷ []) (b ∷ []) low high low' high' h =
    two_alone a b ∙ ap (λ t. if t then set ((a, b) ∷ []) else none) (below a b h)
  where
    below : (a b : ℕ) → b < a → nat_le a b ≡ false
    below a b h = grind (arith, nat_tests)
reversed (a ∷ []) (b ∷ d ∷ to) low high low' high' h = absurd (omega arith)
reversed (a ∷ d ∷ from) to low high low' high' h = absurd (omega arith)

one_canonical : (a b : ℕ) → a ≤ b → b ≤ 0x2ffff → IsCanonical ((a, b) ∷ [])
unfolding rises_from
one_canonical a b h k = grind (arith, nat_tests)

last_character : (b : ℕ) → are_characters (b ∷ []) ≡ true → b ≤ 0x2ffff
last_character b h =
    let inside : is_character b ≡ true = (and_parts (is_character b) true h).0 in grind (arith, nat_tests, inside)

set_of_one : (r : Range) → mkset (r ∷ []) ≡ set (r ∷ [])
unfolding mkset
set_of_one r = refl

pub rising : (from to : List ℕ) (class : List Range) →
    ((p q : List Range) → IsCanonical p → IsCanonical q → ((c : ℕ) → in_ranges p c ≡ in_ranges q c) → p ≡ q) →
    IsWord to → 1 ≤ length from → length from < 2 → 1 ≤ length to → length to < 2 → get_or from 0 0 ≤ get_or to 0 0 →
    IsCanonical class → ((c : ℕ) → in_ranges class c ≡ in_range (get_or from 0 0, get_or to 0 0) c)
    → range_regex from to ≡ mkset class
rising [] to class same is_word low high low' high' h canonical members = absurd (omega arith)
rising (a ∷ []) [] class same is_word low high low' high' h canonical members = absurd (omega arith)
rising (a ∷ []) (b ∷ []) class same is_word low high low' high' h canonical members =
    let one : class ≡ (a, b) ∷ [] =
    same class ((a, b) ∷ []) canonical (one_canonical a b h (last_character b is_word))
    (λ c. members c ∙ sym (in_ranges-one (a, b) c)) in
    two_alone a b ∙ (ap (λ t. if t then set ((a, b) ∷ []) else none) (upward a b h)
    ∙ (sym (set_of_one (a, b)) ∙ ap mkset (sym one)))
  where
    upward : (a b : ℕ) → a ≤ b → nat_le a b ≡ true
    upward a b h = grind (arith, nat_tests)
rising (a ∷ []) (b ∷ d ∷ to) class same is_word low high low' high' h canonical members = absurd (omega arith)
rising (a ∷ d ∷ from) to class same is_word low high low' high' h canonical members = absurd (omega arith)
