-- Which lengths the words of a regex have, by its parts.
use Rattle.std.proofs.Common.{◌≡◌, ℕ, ◌+◌, ◌<◌, ◌≤◌, Bool, true, false, ◌&&◌, ◌||◌, List, [], ◌∷◌, ◌++◌, length, get_or, take, refl, sym, ap, ◌∙◌, arith, add-one}
use Rattle.std.proofs.Math.Bool.{and-true, or-false}
use Rattle.std.proofs.Math.Seq.{take-suc}
use Rattle.std.proofs.lemmas.Bool.Decides.{nat_tests}
use Rattle.std.proofs.lemmas.List.{take_all}
use Rattle.sb_word.specs.Words.{is_character}
use Rattle.sb_class.specs.Ranges.{Range, in_range, in_ranges}
use Rattle.sb_lang.specs.Regex.{Regex, regexes, set}
use Rattle.sb_lang.specs.Constructors.{any_character}
use Rattle.sb_lang.specs.Languages.{Language}
use Rattle.sb_lang.specs.Language.{language, some_language, all_languages}
use Rattle.sb_lang.specs.Order.{regex_eq}
use Rattle.sb_lang.specs.OrderLaws.{OrderTellsApart}
use Rattle.sb_lengths.specs.declared.Lengths.{Lengths}
use Rattle.sb_lengths.specs.Lengths.{AreLengths}
use Rattle.sb_regex.specs.Numbered.{regex_at, regexes_at}
use Rattle.sb_regex.proofs.Ordered.{regex_same}

pub same_lengths : (lengths : Lengths) (L M : Language) → AreLengths lengths L → ((w : List ℕ) → L w ≡ M w)
    → AreLengths lengths M
same_lengths lengths L M are e = record {
  possible = λ w word h. are.possible w word (e w ∙ h);
  certain = λ w word h. sym (e w) ∙ are.certain w word h;
}

-- one more part

or_moved : (a b c : Bool) → ((a || b) || c) ≡ (a || (b || c))
or_moved true b c = refl
or_moved false b c = refl

and_moved : (a b c : Bool) → ((a && b) && c) ≡ (a && (b && c))
and_moved true b c = refl
and_moved false b c = refl

some_push : (rs : List Regex) (is : List ℕ) (i : ℕ) (w : List ℕ)
    → (some_language (regexes (regexes_at rs is)) w || language (regex_at rs i) w)
    ≡ some_language (regexes (regexes_at rs (is ++ i ∷ []))) w
unfolding some_language regexes
some_push rs [] i w = sym (or-false (language (regex_at rs i) w))
some_push rs (j ∷ js) i w =
    or_moved (language (regex_at rs j) w) _ _ ∙ ap (λ b. language (regex_at rs j) w || b) (some_push rs js i w)

all_push : (rs : List Regex) (is : List ℕ) (i : ℕ) (w : List ℕ)
    → (all_languages (regexes (regexes_at rs is)) w && language (regex_at rs i) w)
    ≡ all_languages (regexes (regexes_at rs (is ++ i ∷ []))) w
unfolding all_languages regexes
all_push rs [] i w = sym (and-true (language (regex_at rs i) w))
all_push rs (j ∷ js) i w =
    and_moved (language (regex_at rs j) w) _ _ ∙ ap (λ b. language (regex_at rs j) w && b) (all_push rs js i w)

take_more : (ids : List ℕ) (i x : ℕ) → i < length ids → x ≡ get_or ids i x
    → take i ids ++ x ∷ [] ≡ take (i + 1) ids
take_more ids i x l is =
    ap (λ y. take i ids ++ y ∷ []) is ∙ sym (take-suc ids i x l) ∙ ap (λ n. take n ids) (sym (add-one i))

-- the parts in front of the place
abbrev pub AreSome : List Regex → List ℕ → ℕ → Lengths → Type 0
AreSome rs ids i lengths = AreLengths lengths (some_language (regexes (regexes_at rs (take i ids))))

abbrev pub AreAll : List Regex → List ℕ → ℕ → Lengths → Type 0
AreAll rs ids i lengths = AreLengths lengths (all_languages (regexes (regexes_at rs (take i ids))))

pub some_begun : (rs : List Regex) (ids : List ℕ) (lengths : Lengths) → AreLengths lengths (λ w. false)
    → AreSome rs ids 0 lengths
unfolding some_language regexes
some_begun rs ids lengths are = same_lengths lengths _ _ are (λ w. refl)

pub all_begun : (rs : List Regex) (ids : List ℕ) (lengths : Lengths) → AreLengths lengths (λ w. true)
    → AreAll rs ids 0 lengths
unfolding all_languages regexes
all_begun rs ids lengths are = same_lengths lengths _ _ are (λ w. refl)

pub some_more : (rs : List Regex) (ids : List ℕ) (i x : ℕ) (before part after : Lengths) → i < length ids
    → x ≡ get_or ids i x → AreSome rs ids i before → AreLengths part (language (regex_at rs x))
    → ((L M : Language) → AreLengths before L → AreLengths part M → AreLengths after (λ w. L w || M w))
    → AreSome rs ids (i + 1) after
some_more rs ids i x before part after l is so_far one joined =
    rw (← take_more ids i x l is)
    (same_lengths after _ _ (joined _ _ so_far one) (λ w. some_push rs (take i ids) x w))

pub all_more : (rs : List Regex) (ids : List ℕ) (i x : ℕ) (before part after : Lengths) → i < length ids
    → x ≡ get_or ids i x → AreAll rs ids i before → AreLengths part (language (regex_at rs x))
    → ((L M : Language) → AreLengths before L → AreLengths part M → AreLengths after (λ w. L w && M w))
    → AreAll rs ids (i + 1) after
all_more rs ids i x before part after l is so_far one joined =
    rw (← take_more ids i x l is)
    (same_lengths after _ _ (joined _ _ so_far one) (λ w. all_push rs (take i ids) x w))

pub some_whole : (rs : List Regex) (ids : List ℕ) (i : ℕ) (lengths : Lengths) → length ids ≤ i
    → AreSome rs ids i lengths → AreLengths lengths (some_language (regexes (regexes_at rs ids)))
some_whole rs ids i lengths l are = rw (take_all i ids l) at are

pub all_whole : (rs : List Regex) (ids : List ℕ) (i : ℕ) (lengths : Lengths) → length ids ≤ i
    → AreAll rs ids i lengths → AreLengths lengths (all_languages (regexes (regexes_at rs ids)))
all_whole rs ids i lengths l are = rw (take_all i ids l) at are

-- a full set has each character
pub full_set : OrderTellsApart → (rs : List Range) (full : Bool) → full ≡ regex_eq (set rs) any_character → full ≡ true
    → (c : ℕ) → is_character c ≡ true → in_ranges rs c ≡ true
unfolding in_ranges in_range
full_set tells rs full is it_is c h =
    let e : set rs ≡ any_character = regex_same tells (set rs) any_character (sym is ∙ it_is) in
    ap (λ r. ranges_in r c) e ∙ every c h
  where
    ranges_in : Regex → ℕ → Bool
    ranges_in (set ss) c = in_ranges ss c
    ranges_in r c = false

    every : (c : ℕ) → is_character c ≡ true → in_ranges ((0, 0x2ffff) ∷ []) c ≡ true
    every c h = grind (arith, nat_tests, h)
