-- The regex of a word, built from its end.
use Rattle.std.proofs.Common.{◌≡◌, ℕ, zero, suc, ◌+◌, ◌<◌, ◌≤◌, true, ◌&&◌, nat_le, List, [], ◌∷◌, length, get_or, drop, refl, sym, ap, ap₂, ◌∙◌, arith}
use Rattle.std.proofs.lemmas.Bool.{and_parts}
use Rattle.std.proofs.lemmas.Bool.Decides.{nat_tests}
use Rattle.std.proofs.lemmas.List.{drop_more, drop_all}
use Rattle.sb_class.specs.Ranges.{rises_from}
use Rattle.sb_word.specs.Words.{IsWord, is_character, are_characters}
use Rattle.sb_lang.specs.Regex.{Regex, eps, set}
use Rattle.sb_lang.specs.Constructors.{mkset, mkcat}
use Rattle.sb_lang.specs.Normal.{word_regex}
use Rattle.sb_lang.specs.NormalForm.{IsNormal}
use Rattle.sb_lang.specs.NormalFormLaws.{ConstructorsGiveNormal}
use Rattle.sb_regex.specs.Numbered.{regex_at, Names, Extends}
use Rattle.sb_regex.proofs.CallerLemmas.{at_kept, names_at, names_from}

pub word_start : (rs : List Regex) (w : List ℕ) (n i : ℕ) → length w ≡ n → Names rs i eps
    → regex_at rs i ≡ word_regex (drop n w)
unfolding word_regex
word_start rs w n i l h = names_at rs i eps h ∙ sym (ap word_regex (drop_all n w (omega (arith, l))))

pub word_next : (w : List ℕ) (n i x : ℕ) → n ≡ i + 1 → i < length w → x ≡ get_or w i x
    → word_regex (drop i w) ≡ mkcat (set ((x, x) ∷ [])) (word_regex (drop n w))
unfolding word_regex
word_next w n i x e l is =
    ap word_regex (drop_more w i x l)
    ∙ ap (λ c. mkcat (set ((c, c) ∷ [])) (word_regex (drop (i + 1) w))) (sym is)
    ∙ ap (λ k. mkcat (set ((x, x) ∷ [])) (word_regex (drop k w))) (sym e)

pub word_more : (now after last : List Regex) (w : List ℕ) (n i x whole character more : ℕ) → n ≡ i + 1 → i < length w
    → x ≡ get_or w i x → whole < length now → Extends now after → regex_at now whole ≡ word_regex (drop n w)
    → Names after character (set ((x, x) ∷ []))
    → Names last more (mkcat (regex_at after character) (regex_at after whole))
    → regex_at last more ≡ word_regex (drop i w)
word_more now after last w n i x whole character more e l is known ext inv named made =
    names_at last more _ made
    ∙ ap₂ (λ r s. mkcat r s) (names_at after character _ named) (at_kept now after whole ext known ∙ inv)
    ∙ sym (word_next w n i x e l is)

pub word_end : (rs : List Regex) (w : List ℕ) (n i : ℕ) → n ≡ 0 → i < length rs → regex_at rs i ≡ word_regex (drop n w)
    → Names rs i (word_regex w)
word_end rs w n i e l inv = names_from rs i (word_regex w) l (inv ∙ ap (λ k. word_regex (drop k w)) e)

is_character_at : (w : List ℕ) (i d : ℕ) → are_characters w ≡ true → i < length w → is_character (get_or w i d) ≡ true
is_character_at [] i d h l = absurd (omega arith)
is_character_at (c ∷ w) zero d h l = (and_parts _ _ h).0
is_character_at (c ∷ w) (suc i) d h l = is_character_at w i d (and_parts _ _ h).1 (omega (arith, l))

canonical_one : (x : ℕ) → is_character x ≡ true → rises_from 0 ((x, x) ∷ []) ≡ true
unfolding rises_from
canonical_one x h = ap₂ ◌&&◌ (ap₂ ◌&&◌ (below 0 x (omega arith)) (ap₂ ◌&&◌ (below x x (omega arith)) h)) refl
  where
    below : (m n : ℕ) → m ≤ n → nat_le m n ≡ true
    below m n l = grind (arith, nat_tests)

pub normal_character : ConstructorsGiveNormal → (w v : List ℕ) (i x : ℕ) → IsWord v → w ≡ v → i < length w
    → x ≡ get_or w i x → IsNormal (set ((x, x) ∷ []))
unfolding mkset
normal_character law w v i x word same l is =
    let good : is_character x ≡ true = rw is (is_character_at w i x (rw same word) l) in
    law.sets ((x, x) ∷ []) (canonical_one x good)
