-- The regexes of parts of words have the words that the tests say, and they are normal.
use Rattle.std.proofs.Common.{◌≡◌, ℕ, Bool, true, false, ◌&&◌, ◌||◌, ◌==◌, List, [], ◌∷◌, map, refl, ap, ap₂, ◌∙◌, arith}
use Rattle.std.specs.List.{list_any, list_all}
use Rattle.std.proofs.Math.Bool.{or-false}
use Rattle.std.proofs.lemmas.Bool.{and_parts}
use Rattle.std.proofs.lemmas.Bool.Decides.{nat_tests}
use Rattle.sb_class.specs.Ranges.{in_ranges}
use Rattle.sb_word.specs.Words.{is_character, are_characters}
use Rattle.sb_lang.specs.Languages.{Language, cut}
use Rattle.sb_lang.specs.Membership.{is_word}
use Rattle.sb_lang.specs.Regex.{Regex, eps, set}
use Rattle.sb_lang.specs.Constructors.{anything, mkcat}
use Rattle.sb_lang.specs.Normal.{word_regex}
use Rattle.sb_lang.specs.Language.{language, some_language, all_languages}
use Rattle.sb_lang.specs.NormalForm.{is_normal}
use Rattle.sb_lang.specs.Affixes.{is_prefix, is_suffix, is_inside, beginning_with, ending_with, containing, ends_of, prefixes, suffixes, factors}
use Rattle.sb_lang.specs.AffixLaws.{AffixesHaveTheirWords, AffixesAreNormal}
use Rattle.sb_lang.proofs.CutFacts.{cut-same, cut-left_none}
use Rattle.sb_lang.proofs.MemberFacts.{language-mkalt}
use Rattle.sb_lang.proofs.ConstructorFacts.{language-mkcat}
use Rattle.sb_lang.proofs.NormalFacts.{one_range, one_number, cut-character, word_tells}
use Rattle.sb_lang.proofs.UnionForm.{is_normal-mkalt}
use Rattle.sb_lang.proofs.NormalFormFacts.{is_normal_eps, is_normal_anything, set_is_normal, character_below, is_normal-mkcat, is_normal-word_regex}

-- The words that begin with a word, end with it, or hold it.

every_word : Language
every_word w = true

-- a cut whose first part has to pass a test besides, which does not depend on the word
cut-if : (b : Bool) (L M : Language) (w : List ℕ) → cut (λ u. b && L u) M w ≡ (b && cut L M w)
cut-if true L M w = refl
cut-if false L M w = cut-left_none (λ u. false) M w (λ u. refl)

word_in_front : (w v : List ℕ) → cut (is_word w) every_word v ≡ is_prefix w v
unfolding cut every_word
word_in_front [] [] = refl
word_in_front [] (d ∷ v) = refl
word_in_front (c ∷ w) [] = refl
word_in_front (c ∷ w) (d ∷ v) =
    cut-if (c == d) (is_word w) every_word v ∙ ap (λ b. (c == d) && b) (word_in_front w v)

word_at_end : (w v : List ℕ) → cut every_word (is_word w) v ≡ is_suffix w v
unfolding cut every_word
word_at_end w [] = refl
word_at_end w (d ∷ v) = ap (λ b. is_word w (d ∷ v) || b) (word_at_end w v)

word_somewhere : (w v : List ℕ) → cut every_word (is_prefix w) v ≡ is_inside w v
unfolding cut every_word
word_somewhere w [] = refl
word_somewhere w (d ∷ v) = ap (λ b. is_prefix w (d ∷ v) || b) (word_somewhere w v)

language-anything : (w : List ℕ) → language anything w ≡ every_word w
unfolding language some_language all_languages every_word
language-anything w = refl

language-beginning_with : (w v : List ℕ) → language (beginning_with w) v ≡ is_prefix w v
unfolding beginning_with
language-beginning_with w v =
    language-mkcat (word_regex w) anything v
    ∙ cut-same (language (word_regex w)) (is_word w) (language anything) every_word v (word_tells w) language-anything
    ∙ word_in_front w v

language-ending_with : (w v : List ℕ) → language (ending_with w) v ≡ is_suffix w v
unfolding ending_with
language-ending_with w v =
    language-mkcat anything (word_regex w) v
    ∙ cut-same (language anything) every_word (language (word_regex w)) (is_word w) v language-anything (word_tells w)
    ∙ word_at_end w v

language-containing : (w v : List ℕ) → language (containing w) v ≡ is_inside w v
unfolding containing beginning_with
language-containing w v =
    language-mkcat anything (beginning_with w) v
    ∙ cut-same (language anything) every_word (language (beginning_with w)) (is_prefix w) v language-anything
    (language-beginning_with w)
    ∙ word_somewhere w v

-- The prefixes, suffixes and factors of a word.

character_in_front : (c : ℕ) (r : Regex) (d : ℕ) (v : List ℕ)
    → language (mkcat (set ((c, c) ∷ [])) r) (d ∷ v) ≡ ((c == d) && language r v)
unfolding language some_language all_languages cut
character_in_front c r d v =
    language-mkcat (set ((c, c) ∷ [])) r (d ∷ v)
    ∙ cut-character (in_ranges ((c, c) ∷ [])) (language r) d v
    ∙ ap (λ b. b && language r v) (one_range c c d ∙ one_number c d)

same_number : (c d : ℕ) → (c == d) ≡ (d == c)
same_number c d = grind (arith, nat_tests)

pub language-prefixes : (w v : List ℕ) → language (prefixes w) v ≡ is_prefix v w
unfolding prefixes language some_language all_languages
language-prefixes [] [] = refl
language-prefixes [] (d ∷ v) = refl
language-prefixes (c ∷ w) [] = language-mkalt (eps ∷ mkcat (set ((c, c) ∷ [])) (prefixes w) ∷ []) []
language-prefixes (c ∷ w) (d ∷ v) =
    language-mkalt (eps ∷ mkcat (set ((c, c) ∷ [])) (prefixes w) ∷ []) (d ∷ v)
    ∙ or-false (language (mkcat (set ((c, c) ∷ [])) (prefixes w)) (d ∷ v))
    ∙ character_in_front c (prefixes w) d v
    ∙ ap₂ ◌&&◌ (same_number c d) (language-prefixes w v)

is_word-swap : (v w : List ℕ) → is_word v w ≡ is_word w v
is_word-swap [] [] = refl
is_word-swap [] (d ∷ w) = refl
is_word-swap (c ∷ v) [] = refl
is_word-swap (c ∷ v) (d ∷ w) = ap₂ ◌&&◌ (same_number c d) (is_word-swap v w)

language-end : (w v : List ℕ) → language (word_regex w) v ≡ is_word v w
language-end w v = word_tells w v ∙ is_word-swap w v

some_end : (w v : List ℕ) → list_any (λ r. language r v) (map word_regex (ends_of w)) ≡ is_suffix v w
unfolding ends_of
some_end [] v = or-false (language (word_regex []) v) ∙ language-end [] v
some_end (c ∷ w) v = ap₂ ◌||◌ (language-end (c ∷ w) v) (some_end w v)

language-suffixes : (w v : List ℕ) → language (suffixes w) v ≡ is_suffix v w
unfolding suffixes
language-suffixes w v = language-mkalt (map word_regex (ends_of w)) v ∙ some_end w v

some_prefix : (w v : List ℕ) → list_any (λ r. language r v) (map prefixes (ends_of w)) ≡ is_inside v w
unfolding ends_of
some_prefix [] v = or-false (language (prefixes []) v) ∙ language-prefixes [] v
some_prefix (c ∷ w) v = ap₂ ◌||◌ (language-prefixes (c ∷ w) v) (some_prefix w v)

language-factors : (w v : List ℕ) → language (factors w) v ≡ is_inside v w
unfolding factors
language-factors w v = language-mkalt (map prefixes (ends_of w)) v ∙ some_prefix w v

pub affixes_have_their_words : AffixesHaveTheirWords
affixes_have_their_words = record {
  beginnings = language-beginning_with;
  endings = language-ending_with;
  holders = language-containing;
  prefixes_of = language-prefixes;
  suffixes_of = language-suffixes;
  factors_of = language-factors;
}

-- They are normal.

is_normal-beginning_with : (w : List ℕ) → are_characters w ≡ true → is_normal (beginning_with w) ≡ true
unfolding beginning_with
is_normal-beginning_with w h = is_normal-mkcat (word_regex w) anything (is_normal-word_regex w h) is_normal_anything

is_normal-ending_with : (w : List ℕ) → are_characters w ≡ true → is_normal (ending_with w) ≡ true
unfolding ending_with
is_normal-ending_with w h = is_normal-mkcat anything (word_regex w) is_normal_anything (is_normal-word_regex w h)

is_normal-containing : (w : List ℕ) → are_characters w ≡ true → is_normal (containing w) ≡ true
unfolding containing beginning_with
is_normal-containing w h =
    is_normal-mkcat anything (beginning_with w) is_normal_anything (is_normal-beginning_with w h)

character_is_normal : (c : ℕ) → is_character c ≡ true → is_normal (set ((c, c) ∷ [])) ≡ true
character_is_normal c h = set_is_normal c c (omega arith) (character_below c h)

pub is_normal-prefixes : (w : List ℕ) → are_characters w ≡ true → is_normal (prefixes w) ≡ true
unfolding prefixes
is_normal-prefixes [] h = is_normal_eps
is_normal-prefixes (c ∷ w) h =
    let p = and_parts (is_character c) (are_characters w) h in
    is_normal-mkalt (eps ∷ mkcat (set ((c, c) ∷ [])) (prefixes w) ∷ [])
    (ap₂ ◌&&◌ is_normal_eps (ap₂ ◌&&◌
    (is_normal-mkcat (set ((c, c) ∷ [])) (prefixes w) (character_is_normal c p.0) (is_normal-prefixes w p.1)) refl))

-- a regex of each end of the word
are_normal-ends : (f : List ℕ → Regex) → ((w : List ℕ) → are_characters w ≡ true → is_normal (f w) ≡ true)
    → (w : List ℕ) → are_characters w ≡ true → list_all is_normal (map f (ends_of w)) ≡ true
unfolding ends_of
are_normal-ends f normal [] h = ap₂ ◌&&◌ (normal [] h) refl
are_normal-ends f normal (c ∷ w) h =
    ap₂ ◌&&◌ (normal (c ∷ w) h)
    (are_normal-ends f normal w (and_parts (is_character c) (are_characters w) h).1)

is_normal-suffixes : (w : List ℕ) → are_characters w ≡ true → is_normal (suffixes w) ≡ true
unfolding suffixes
is_normal-suffixes w h =
    is_normal-mkalt (map word_regex (ends_of w)) (are_normal-ends word_regex is_normal-word_regex w h)

is_normal-factors : (w : List ℕ) → are_characters w ≡ true → is_normal (factors w) ≡ true
unfolding factors
is_normal-factors w h =
    is_normal-mkalt (map prefixes (ends_of w)) (are_normal-ends prefixes is_normal-prefixes w h)

pub affixes_are_normal : AffixesAreNormal
affixes_are_normal = record {
  beginnings = is_normal-beginning_with;
  endings = is_normal-ending_with;
  holders = is_normal-containing;
  prefixes_of = is_normal-prefixes;
  suffixes_of = is_normal-suffixes;
  factors_of = is_normal-factors;
}
