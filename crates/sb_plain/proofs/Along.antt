-- Derivatives along words.
use Rattle.std.proofs.Common.{◌≡◌, ℕ, zero, suc, ◌+◌, ◌-◌, ◌<◌, ◌≤◌, Bool, List, [], ◌∷◌, ◌++◌, length, get_or, take, drop, refl, sym, ap, subst, ◌∙◌, arith}
use Rattle.std.proofs.lemmas.Bool.{and_parts}
use Rattle.std.proofs.lemmas.Bool.Decides.{nat_tests}
use Rattle.std.proofs.lemmas.List.{take_more, take_all, append-nil, take-append-drop, length-drop}
use Rattle.sb_word.specs.Words.{is_character, are_characters, IsWord}
use Rattle.sb_lang.specs.Regex.{Regex}
use Rattle.sb_lang.specs.Derivative.{nd, nd_along, nullable}
use Rattle.sb_lang.specs.DerivativeLaws.{NullableHasEmptyWord, DerivativeAlongHasRests}
use Rattle.sb_lang.specs.Language.{language}
use Rattle.sb_regex.specs.Numbered.{regex_at, Names}
use Rattle.sb_regex.proofs.CallerLemmas.{names_at, names_from}

along_last : (r : Regex) (u : List ℕ) (c : ℕ) → nd_along r (u ++ c ∷ []) ≡ nd (nd_along r u) c
unfolding nd_along
along_last r [] c = refl
along_last r (x ∷ u) c = along_last (nd r x) u c

pub along_none : (rs : List Regex) (r : ℕ) → r < length rs → Names rs r (nd_along (regex_at rs r) [])
unfolding nd_along
along_none rs r l = names_from rs r (regex_at rs r) l refl

pub along_more : (rs rs' : List Regex) (r : Regex) (codes : List ℕ) (i rest rest' : ℕ) → i < length codes
    → Names rs rest (nd_along r (take i codes)) → Names rs' rest' (nd (regex_at rs rest) (get_or codes i 0))
    → Names rs' rest' (nd_along r (take (i + 1) codes))
along_more rs rs' r codes i rest rest' l n m =
    subst (Names rs' rest')
    (ap (λ x. nd x (get_or codes i 0)) (names_at rs rest (nd_along r (take i codes)) n)
    ∙ sym (along_last r (take i codes) (get_or codes i 0)) ∙ ap (nd_along r) (sym (take_more codes i 0 l))) m

pub along_all : (rs : List Regex) (r : Regex) (codes : List ℕ) (i rest : ℕ) → length codes ≤ i
    → Names rs rest (nd_along r (take i codes)) → Names rs rest (nd_along r codes)
along_all rs r codes i rest l n = subst (λ (u : List ℕ). Names rs rest (nd_along r u)) (take_all i codes l) n

pub code_below : (codes : List ℕ) (i : ℕ) → IsWord codes → i < length codes → get_or codes i 0 ≤ 0x2ffff
code_below [] i w l = absurd (omega (arith, l))
code_below (c ∷ cs) zero w l =
    let h = (and_parts (is_character c) (are_characters cs) w).0 in grind (arith, nat_tests, h)
code_below (c ∷ cs) (suc i) w l =
    code_below cs i (and_parts (is_character c) (are_characters cs) w).1 (omega (arith, l))

pub matched : (rs : List Regex) (r : Regex) (codes word : List ℕ) (rest : ℕ) (b : Bool) → DerivativeAlongHasRests
    → NullableHasEmptyWord → codes ≡ word → Names rs rest (nd_along r codes) → b ≡ nullable (regex_at rs rest)
    → b ≡ language r word
matched rs r codes word rest b d e is n h =
    h ∙ ap nullable (names_at rs rest (nd_along r codes) n) ∙ e (nd_along r codes) ∙ d r codes []
    ∙ ap (language r) (append-nil codes ∙ is)

-- the derivative along the first characters, and what is left

pub matched_begun : (rs : List Regex) (r : Regex) (codes word : List ℕ) (place rest : ℕ) (b : Bool)
    → DerivativeAlongHasRests → codes ≡ word → Names rs rest (nd_along r (take place codes))
    → b ≡ language (regex_at rs rest) (drop place codes) → b ≡ language r word
matched_begun rs r codes word place rest b d is n h =
    h ∙ ap (λ x. language x (drop place codes)) (names_at rs rest (nd_along r (take place codes)) n)
    ∙ d r (take place codes) (drop place codes) ∙ ap (language r) (take-append-drop place codes ∙ is)

drop_at_end : (codes : List ℕ) (place : ℕ) → length codes ≤ place → drop place codes ≡ []
drop_at_end [] zero l = refl
drop_at_end [] (suc k) l = refl
drop_at_end (c ∷ codes) zero l = absurd (omega (arith, l))
drop_at_end (c ∷ codes) (suc k) l = drop_at_end codes k (omega (arith, l))

pub matched_at_end : (rs : List Regex) (codes : List ℕ) (place rest : ℕ) (b : Bool) → NullableHasEmptyWord
    → length codes ≤ place → b ≡ nullable (regex_at rs rest) → b ≡ language (regex_at rs rest) (drop place codes)
matched_at_end rs codes place rest b e l h =
    h ∙ e (regex_at rs rest) ∙ ap (language (regex_at rs rest)) (sym (drop_at_end codes place l))

pub word_dropped : (codes : List ℕ) (place : ℕ) → IsWord codes → IsWord (drop place codes)
word_dropped codes zero w = w
word_dropped [] (suc k) w = w
word_dropped (c ∷ codes) (suc k) w = word_dropped codes k (and_parts (is_character c) (are_characters codes) w).1

-- the characters from a place on, as a slice
pub slice_is : (codes : List ℕ) (place : ℕ) → take (length codes - place) (drop place codes) ≡ drop place codes
slice_is codes place =
    take_all (length codes - place) (drop place codes) (omega (arith, length-drop place codes))

pub word_slice : (codes : List ℕ) (place : ℕ) → IsWord codes
    → IsWord (take (length codes - place) (drop place codes))
word_slice codes place w = subst (λ u. IsWord u) (sym (slice_is codes place)) (word_dropped codes place w)
