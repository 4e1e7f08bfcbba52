-- Values as words, one after the other.
use Rattle.std.proofs.Common.{◌≡◌, ℕ, zero, suc, ◌+◌, ◌<◌, ◌≤◌, Bool, true, false, ◌&&◌, if◌then◌else◌, List, [], ◌∷◌, length, map, drop, get_or, refl, sym, ap, ◌∙◌, arith, Some, None, slice_get}
use Rattle.std.specs.List.{list_all}
use Rattle.std.proofs.lemmas.Bool.{and_from}
use Rattle.std.proofs.lemmas.Bool.Decides.{nat_tests}
use Rattle.std.proofs.lemmas.List.{drop_more, nil_from_length}
use Rattle.sb_word.specs.Words.{is_character, are_characters}
use Rattle.sb_proof.specs.declared.line.Value as code
use Rattle.sb_proof.specs.Lines.{value_in as read}
use Rattle.sb_models.specs.Knowing.{word_at}
use Rattle.sb_models.specs.Tried.{word_in, is_word, IsWordOf}

-- Values from a place on.

abbrev pub AreWordsFrom : List code.Value → ℕ → Type 0
AreWordsFrom values place = list_all is_word (map read (drop place values)) ≡ true

pub words_next : (values : List code.Value) (place : ℕ) (x : code.Value) → place < length values
    → x ≡ get_or values place x → is_word (read x) ≡ true → AreWordsFrom values (place + 1)
    → AreWordsFrom values place
words_next values place x low is here rest =
    ap (λ vs. list_all is_word (map read vs)) (drop_more values place x low ∙ ap (λ v. v ∷ drop (place + 1) values) (sym is))
    ∙ and_from (is_word (read x)) _ here rest

pub word_fails : (values : List code.Value) (place : ℕ) (x : code.Value) → place < length values
    → x ≡ get_or values place x → is_word (read x) ≡ false → list_all is_word (map read values) ≡ false
word_fails [] place x low is h = absurd (omega arith)
word_fails (v ∷ values) zero x low is h =
    ap (λ b. b && list_all is_word (map read values)) (ap (λ u. is_word (read u)) (sym is) ∙ h)
word_fails (v ∷ values) (suc place) x low is h =
    ap (λ b. is_word (read v) && b) (word_fails values place x (omega arith) is h) ∙ and_false (is_word (read v))
  where
    and_false : (b : Bool) → (b && false) ≡ false
    and_false true = refl
    and_false false = refl

-- Numbers, one after the other.

pub large_fails : (numbers : List ℕ) (place d : ℕ) → place < length numbers
    → (get_or numbers place d < 0x100000000 → ⊥) → are_characters numbers ≡ false
large_fails [] place d l h = absurd (omega arith)
large_fails (m ∷ numbers) zero d l h =
    let above : 0x2ffff < m = omega (arith, h) in
    let large : is_character m ≡ false = grind (arith, nat_tests, above) in
    ap (λ b. b && are_characters numbers) large
large_fails (m ∷ numbers) (suc place) d l h =
    ap (λ b. is_character m && b) (large_fails numbers place d (omega arith) h) ∙ and_false (is_character m)
  where
    and_false : (b : Bool) → (b && false) ≡ false
    and_false true = refl
    and_false false = refl

pub outside_fails : (numbers : List ℕ) (place n : ℕ) → slice_get numbers place ≡ Some n → is_character n ≡ false
    → are_characters numbers ≡ false
outside_fails [] place n h k = absurd (let both : None ≡ Some n = h in cc)
outside_fails (m ∷ numbers) zero n h k =
    let same : m ≡ n = cc in
    ap (λ b. b && are_characters numbers) (ap is_character same ∙ k)
outside_fails (m ∷ numbers) (suc place) n h k =
    ap (λ b. is_character m && b) (outside_fails numbers place n h k) ∙ and_false (is_character m)
  where
    and_false : (b : Bool) → (b && false) ≡ false
    and_false true = refl
    and_false false = refl

pub no_word_in : (numbers codes : List ℕ) → codes ≡ numbers → are_characters codes ≡ false → None ≡ word_in numbers
no_word_in numbers codes is none =
    ap (λ b. if b then Some numbers else None) (sym (ap are_characters (sym is) ∙ none))

-- where no word is, the empty one is
pub empty_past : (words : List (List ℕ)) (place : ℕ) (numbers : List ℕ) → length words ≤ place
    → length numbers ≡ 0 → IsWordOf (word_at words place) numbers
empty_past words place numbers past none =
    let empty : numbers ≡ [] = nil_from_length numbers none in
    (none_past words place past ∙ sym empty, ap are_characters empty)
  where
    none_past : (words : List (List ℕ)) (place : ℕ) → length words ≤ place → word_at words place ≡ []
    none_past [] place l = refl
    none_past (w ∷ words) zero l = absurd (omega arith)
    none_past (w ∷ words) (suc place) l = none_past words place (omega arith)
