-- The derivative by a character has the words that the character begins.
use Rattle.std.proofs.Common.{◌≡◌, ℕ, zero, suc, ◌-◌, Bool, true, false, not, ◌&&◌, ◌||◌, cond, List, [], ◌∷◌, ◌++◌, refl, sym, ap, ap₂, ◌∙◌}
use Rattle.std.proofs.Math.Bool.{or-false, or_comm}
use Rattle.std.proofs.lemmas.Bool.{and_parts}
use Rattle.sb_class.specs.Ranges.{in_ranges}
use Rattle.sb_word.specs.Words.{is_character, are_characters, IsWord}
use Rattle.sb_lang.specs.DerivativeLaws.{SameSets, AllSameSets}
use Rattle.sb_lang.specs.Languages.{empty_word, one_character, cut, iterate, repeat}
use Rattle.sb_lang.specs.Regex.{Regex, Regexes, none, eps, set, cat, alt, and, neg, star, rep, path, no_more, more}
use Rattle.sb_lang.specs.Constructors.{mkcat, mkalt, mkand, mknot, mkrep, mkpath}
use Rattle.sb_lang.specs.Derivative.{nullable, nd, nds, nd_along}
use Rattle.sb_lang.specs.Language.{language, some_language, all_languages}
use Rattle.sb_lang.proofs.CutFacts.{cut-same, iterate-after, repeat-after, repeat-never}
use Rattle.sb_lang.proofs.MemberFacts.{in_some, in_each, language-mkalt, language-mkand}
use Rattle.sb_lang.proofs.ConstructorFacts.{language-mkcat, language-mknot, language-mkrep, language-mkpath}
use Rattle.sb_lang.proofs.NullableFacts.{nullable_tells}

set_after : (b : Bool) (w : List ℕ) → language (cond b eps none) w ≡ (b && empty_word w)
unfolding language some_language all_languages
set_after true w = refl
set_after false w = refl

set_whole : (test : ℕ → Bool) (c : ℕ) (w : List ℕ) → (test c && empty_word w) ≡ one_character test (c ∷ w)
set_whole test c [] = and-true (test c)
  where
    and-true : (x : Bool) → (x && true) ≡ x
    and-true true = refl
    and-true false = refl
set_whole test c (d ∷ w) = and-false (test c)
  where
    and-false : (x : Bool) → (x && false) ≡ false
    and-false true = refl
    and-false false = refl

-- what the derivative of a concatenation has, from what its parts' have
cat_after : (a b : Regex) (c : ℕ) (w : List ℕ) → ((u : List ℕ) → language (nd a c) u ≡ language a (c ∷ u))
    → language (nd b c) w ≡ language b (c ∷ w) →
    language (cond (nullable a) (mkalt (mkcat (nd a c) b ∷ nd b c ∷ [])) (mkcat (nd a c) b)) w
    ≡ cut (language a) (language b) (c ∷ w)
unfolding cut
cat_after a b c w first second = step (nullable a) (nullable_tells a)
  where
    tail : language (mkcat (nd a c) b) w ≡ cut (λ u. language a (c ∷ u)) (language b) w
    tail =
        language-mkcat (nd a c) b w
        ∙ cut-same (language (nd a c)) (λ u. language a (c ∷ u)) (language b) (language b) w first (λ u. refl)

    step : (x : Bool) → x ≡ language a [] →
        language (cond x (mkalt (mkcat (nd a c) b ∷ nd b c ∷ [])) (mkcat (nd a c) b)) w
        ≡ ((language a [] && language b (c ∷ w)) || cut (λ u. language a (c ∷ u)) (language b) w)
    step true is =
        language-mkalt (mkcat (nd a c) b ∷ nd b c ∷ []) w
        ∙ ap₂ (λ x y. x || (y || false)) tail second
        ∙ ap (λ y. cut (λ u. language a (c ∷ u)) (language b) w || y) (or-false (language b (c ∷ w)))
        ∙ or_comm (cut (λ u. language a (c ∷ u)) (language b) w) (language b (c ∷ w))
        ∙ ap (λ x. (x && language b (c ∷ w)) || cut (λ u. language a (c ∷ u)) (language b) w) is
    step false is =
        tail ∙ ap (λ x. (x && language b (c ∷ w)) || cut (λ u. language a (c ∷ u)) (language b) w) is

star_after : (a : Regex) (c : ℕ) (w : List ℕ) → ((u : List ℕ) → language (nd a c) u ≡ language a (c ∷ u))
    → language (mkcat (nd a c) (star a)) w ≡ iterate (language a) (c ∷ w)
unfolding language some_language all_languages
star_after a c w first =
    language-mkcat (nd a c) (star a) w
    ∙ cut-same (language (nd a c)) (λ u. language a (c ∷ u)) (language (star a)) (iterate (language a)) w first
    (λ u. refl)
    ∙ sym (iterate-after (language a) c w)

rep_after : (a : Regex) (n m c : ℕ) (w : List ℕ) → ((u : List ℕ) → language (nd a c) u ≡ language a (c ∷ u))
    → language (mkcat (nd a c) (mkrep a (n - 1) m)) w ≡ repeat (language a) n (suc m) (c ∷ w)
rep_after a n m c w first =
    language-mkcat (nd a c) (mkrep a (n - 1) m) w
    ∙ cut-same (language (nd a c)) (λ u. language a (c ∷ u)) (language (mkrep a (n - 1) m))
    (repeat (language a) (n - 1) m) w first (λ u. language-mkrep a (n - 1) m u)
    ∙ sym (repeat-after (language a) n m c w)

mutual
  unfolding nd nds language some_language all_languages nd_along

  pub nd_tells : (r : Regex) (c : ℕ) (w : List ℕ) → language (nd r c) w ≡ language r (c ∷ w)
  nd_tells none c w = refl
  nd_tells eps c w = refl
  nd_tells (set rs) c w = set_after (in_ranges rs c) w ∙ set_whole (in_ranges rs) c w
  nd_tells (cat a b) c w = cat_after a b c w (λ u. nd_tells a c u) (nd_tells b c w)
  nd_tells (alt ps) c w = language-mkalt (nds ps c) w ∙ some_nds ps c w
  nd_tells (and ps) c w = language-mkand (nds ps c) w ∙ each_nds ps c w
  nd_tells (neg a) c w = language-mknot (nd a c) w ∙ ap not (nd_tells a c w)
  nd_tells (star a) c w = star_after a c w (λ u. nd_tells a c u)
  nd_tells (rep a n zero) c w = sym (repeat-never (language a) n c w)
  nd_tells (rep a n (suc m)) c w = rep_after a n m c w (λ u. nd_tells a c u)
  nd_tells (path a b) c w = language-mkpath (nd a c) b w

  some_nds : (ps : Regexes) (c : ℕ) (w : List ℕ) → in_some (nds ps c) w ≡ some_language ps (c ∷ w)
  some_nds no_more c w = refl
  some_nds (more r rs) c w = ap₂ ◌||◌ (nd_tells r c w) (some_nds rs c w)

  each_nds : (ps : Regexes) (c : ℕ) (w : List ℕ) → in_each (nds ps c) w ≡ all_languages ps (c ∷ w)
  each_nds no_more c w = refl
  each_nds (more r rs) c w = ap₂ ◌&&◌ (nd_tells r c w) (each_nds rs c w)

pub nd_along_tells : (r : Regex) (u w : List ℕ) → language (nd_along r u) w ≡ language r (u ++ w)
unfolding nd_along
nd_along_tells r [] w = refl
nd_along_tells r (c ∷ u) w = nd_along_tells (nd r c) u w ∙ nd_tells r c (u ++ w)

-- two characters that no set tells apart

mutual
  unfolding nd nds SameSets AllSameSets

  pub nd_by_sets : (r : Regex) (c d : ℕ) → SameSets c d r → nd r c ≡ nd r d
  nd_by_sets none c d h = refl
  nd_by_sets eps c d h = refl
  nd_by_sets (set rs) c d h = ap (λ b. cond b eps none) h
  nd_by_sets (cat a b) c d h =
      ap₂ (λ x y. cond (nullable a) (mkalt (mkcat x b ∷ y ∷ [])) (mkcat x b)) (nd_by_sets a c d h.0)
      (nd_by_sets b c d h.1)
  nd_by_sets (alt ps) c d h = ap mkalt (nds_by_sets ps c d h)
  nd_by_sets (and ps) c d h = ap mkand (nds_by_sets ps c d h)
  nd_by_sets (neg a) c d h = ap mknot (nd_by_sets a c d h)
  nd_by_sets (star a) c d h = ap (λ x. mkcat x (star a)) (nd_by_sets a c d h)
  nd_by_sets (rep a n zero) c d h = refl
  nd_by_sets (rep a n (suc m)) c d h = ap (λ x. mkcat x (mkrep a (n - 1) m)) (nd_by_sets a c d h)
  nd_by_sets (path a b) c d h = ap (λ x. mkpath x b) (nd_by_sets a c d h)

  nds_by_sets : (ps : Regexes) (c d : ℕ) → AllSameSets c d ps → nds ps c ≡ nds ps d
  nds_by_sets no_more c d h = refl
  nds_by_sets (more r rs) c d h = ap₂ ◌∷◌ (nd_by_sets r c d h.0) (nds_by_sets rs c d h.1)

-- a closed set

pub closed_is_empty : (member : Regex → Bool) → ((r : Regex) → member r ≡ true → nullable r ≡ false) →
    ((r : Regex) (c : ℕ) → member r ≡ true → is_character c ≡ true → member (nd r c) ≡ true) →
    (r : Regex) (w : List ℕ) → member r ≡ true → IsWord w → language r w ≡ false
closed_is_empty member empty closed r [] is h = sym (nullable_tells r) ∙ empty r is
closed_is_empty member empty closed r (c ∷ w) is h =
    let p = and_parts (is_character c) (are_characters w) h in
    sym (nd_tells r c w) ∙ closed_is_empty member empty closed (nd r c) w (closed r c is p.0) p.1
