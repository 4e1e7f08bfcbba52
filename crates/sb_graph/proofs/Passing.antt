-- The pieces of a derivative, passed one after the other.
use Rattle.std.proofs.Common.{◌≡◌, ◌≢◌, ℕ, suc, ◌-◌, ◌<◌, ◌≤◌, Bool, true, false, ◌==◌, nat_lt, List, [], ◌∷◌, ◌++◌, length, get_or, slice_get, Some, refl, sym, ap, subst, ◌∙◌, arith, append_assoc}
use Rattle.std.specs.List.{All}
use Rattle.std.proofs.lemmas.Bool.{and_parts, and_from, false≢true, le-leb}
use Rattle.std.proofs.lemmas.Bool.Decides.{nat_tests}
use Rattle.std.proofs.lemmas.Option.{get_or_from_slice_get, slice_get_within}
use Rattle.std.proofs.lemmas.List.{get_or_past, get_or-map, length-map}
use Rattle.std.specs.Ordering.{nat_cmp}
use Rattle.std.specs.Cmp.Lexicographic.{slice_cmp}
use Rattle.std.specs.declared.cmp.Ordering.TheVariants.{Less}
use Rattle.sb_class.proofs.CallerLemmas.{character_below}
use Rattle.sb_word.specs.Words.{is_character, are_characters, IsWord}
use Rattle.sb_lang.specs.Regex.{Regex}
use Rattle.sb_lang.specs.DerivativeLaws.{DerivativeHasRests}
use Rattle.sb_lang.specs.Language.{language}
use Rattle.sb_lang.specs.Languages.{Language}
use Rattle.sb_regex.specs.Numbered.{regex_at}
use Rattle.sb_deriv.specs.Pieces.{covers, targets_of}
use Rattle.sb_deriv.specs.Faithful.{IsDerivative}
use Rattle.sb_deriv.proofs.CallerLemmas.{covers_rises, value_between, value_here, starts_below}
use Rattle.sb_graph.specs.Lengths.{HasNoneOfLength, HasNoneBelow, HasLeast, begins}
use Rattle.sb_graph.proofs.LeastWords.{not_before}

below : (a b : ℕ) → nat_lt a b ≡ true → a < b
below a b h = grind (arith, nat_tests)

not_below : (a b : ℕ) → nat_lt a b ≡ false → b ≤ a
not_below a b h = grind (arith, nat_tests)

module _ (rests : DerivativeHasRests) (rs : List Regex) (r : Regex) (pieces : List (ℕ × ℕ))
    (derived : IsDerivative rs r pieces) (place character target : ℕ)
    (there : slice_get pieces place ≡ Some (character, target)) where
  within : place < length pieces
  within = slice_get_within pieces place (character, target) there

  -- the piece, by any default
  here : (z : ℕ × ℕ) → get_or pieces place z ≡ (character, target)
  here z = get_or_from_slice_get pieces place (character, target) z there

  first_is : begins pieces place ≡ character
  first_is = ap (λ p. p.0) (here (0x30000, 0))

  pub is_a_character : is_character character ≡ true
  is_a_character =
      le-leb character 0x2ffff
      (omega (
        arith,
        starts_below 0 pieces 0x30000 place (character, target)
            (covers_rises pieces 0x30000 derived.ordered.whole) within (sym (here (character, target))),
      ))

  -- a word behind a character of the piece is one of its target
  behind : (c : ℕ) (u : List ℕ) → is_character c ≡ true → character ≤ c → c < begins pieces (suc place)
      → language (regex_at rs target) u ≡ language r (c ∷ u)
  behind c u h l m =
      let z : ℕ × ℕ = (0x30000, 0) in
      let value = value_between 0 0 pieces 0x30000 place c z (covers_rises pieces 0x30000 derived.ordered.whole) within
      (omega (arith, l, first_is)) (λ k. m) in
      ap (λ t. language (regex_at rs t) u) (sym (ap (λ p. p.1) (here z)) ∙ sym value)
      ∙ ap (λ q. language q u) (derived.values c h)
      ∙ rests r c u

  at_first : (u : List ℕ) → language (regex_at rs target) u ≡ language r (character ∷ u)
  at_first u =
      let value = value_here 0 0 pieces 0x30000 place (character, target)
      (covers_rises pieces 0x30000 derived.ordered.whole) within (sym (here (character, target))) in
      ap (λ t. language (regex_at rs t) u) (sym value)
      ∙ ap (λ q. language q u) (derived.values character is_a_character)
      ∙ rests r character u

  -- where the target has no word one shorter
  pub none_next : (n : ℕ) → HasNoneBelow (language r) n pieces place
      → HasNoneOfLength (language (regex_at rs target)) (n - 1) → HasNoneBelow (language r) n pieces (suc place)
  none_next n before none c u h l word long = by (nat_lt c character) refl
    where
      by : (b : Bool) → nat_lt c character ≡ b → language r (c ∷ u) ≡ false
      by true is = before c u h (omega (arith, below c character is, first_is)) word long
      by false is =
          sym (behind c u h (not_below c character is) l) ∙ none u word (omega (arith, long))

  -- where it has one, the least is behind the piece's first character
  pub least_here : (n : ℕ) (old between new : List ℕ) → 0 < n → HasNoneBelow (language r) n pieces place
      → between ≡ old ++ character ∷ [] → HasLeast (language (regex_at rs target)) (n - 1) between new
      → HasLeast (language r) n old new
  least_here n old between new some before pushed least = record {
    least = character ∷ w;
    is = least.is ∙ ap (λ v. v ++ w) pushed ∙ append_assoc old (character ∷ []) w;
    right = record {
      word = and_from _ _ is_a_character least.right.word;
      member = sym (at_first w) ∙ least.right.member;
      long = omega (arith, least.right.long, some);
      least = first_of_all;
    };
  }
    where
      w : List ℕ
      w = least.least

      first_of_all : (v : List ℕ) → IsWord v → language r v ≡ true → length v ≡ n
          → slice_cmp nat_cmp v (character ∷ w) ≢ Less
      first_of_all [] word h long = absurd (omega (arith, long, some))
      first_of_all (c ∷ u) word h long =
          let p = and_parts (is_character c) (are_characters u) word in
          not_before c character u w (late c u p.0 p.1 h long (nat_lt c character) refl)
          (λ same. least.right.least u p.1 (at_first u ∙ ap (λ d. language r (d ∷ u)) (sym same) ∙ h)
          (omega (arith, long)))
        where
          late : (c : ℕ) (u : List ℕ) → is_character c ≡ true → IsWord u → language r (c ∷ u) ≡ true
              → length (c ∷ u) ≡ n → (b : Bool) → nat_lt c character ≡ b → character ≤ c
          late c u char word h long true is =
              absurd (false≢true
              (sym (before c u char (omega (arith, below c character is, first_is)) word (omega (arith, long))) ∙ h))
          late c u char word h long false is = not_below c character is

-- at the end of the pieces there is no character left
pub none_at_end : (L : Language) (n : ℕ) (pieces : List (ℕ × ℕ)) (place : ℕ) → 0 < n → length pieces ≤ place
    → HasNoneBelow L n pieces place → HasNoneOfLength L n
none_at_end L n pieces place some past before [] word long = absurd (omega (arith, long, some))
none_at_end L n pieces place some past before (c ∷ u) word long =
    let p = and_parts (is_character c) (are_characters u) word in
    let end : begins pieces place ≡ 0x30000 = ap (λ q. q.0) (get_or_past pieces place (0x30000, 0) past) in
    before c u p.0 (omega (arith, character_below c p.0, end)) p.1 (omega (arith, long))

-- and at its begin none has been passed
pub none_at_begin : (L : Language) (n : ℕ) (pieces : List (ℕ × ℕ)) → covers pieces 0x30000 ≡ true
    → HasNoneBelow L n pieces 0
unfolding covers
none_at_begin L n [] whole c u h l word long = absurd (false≢true whole)
none_at_begin L n (p ∷ ps) whole c u h l word long =
    let q = and_parts (p.0 == 0) _ whole in absurd (grind (arith, nat_tests, q.0, l))

-- the target is of the list
pub target_known : (pieces : List (ℕ × ℕ)) (n place character target : ℕ) → All (λ i. i < n) (targets_of pieces)
    → slice_get pieces place ≡ Some (character, target) → target < n
target_known pieces n place character target all there =
    let l = slice_get_within pieces place (character, target) there in
    let is = get_or-map (λ (p : ℕ × ℕ). p.1) pieces place (character, target) target l
    ∙ ap (λ p. p.1) (get_or_from_slice_get pieces place (character, target) (character, target) there) in
    subst (λ i. i < n) is (all place target (omega (arith, l, length-map pieces (λ (p : ℕ × ℕ). p.1))))
