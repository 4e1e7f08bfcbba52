-- What a caller cites: what the first line of bytes is, and one read of a proof after another.
use Rattle.std.proofs.Common.{◌≡◌, ℕ, ◌+◌, ◌<◌, Bool, true, false, cond, ◌==◌, List, [], ◌∷◌, ◌++◌, length, refl, ap, ◌∙◌, arith}
use Rattle.std.specs.Prelude.{not}
use Rattle.std.specs.List.{onto_first}
use Rattle.std.proofs.lemmas.Bool.{and_parts, false≢true}
use Rattle.sb_rulebook.specs.LineLaws.{is_one_line}
use Rattle.sb_rulebook.specs.Reading.{split_at, with_ends, texts_of}

-- there is a part
is_split : List (List ℕ) → Bool
is_split [] = false
is_split (part ∷ parts) = true

split-there : (bytes : List ℕ) → is_split (split_at 10 bytes) ≡ true
unfolding is_split
split-there [] = refl
split-there (b ∷ bytes) = step (b == 10) (split_at 10 bytes)
  where
    step : (t : Bool) (parts : List (List ℕ)) → is_split (cond t ([] ∷ parts) (onto_first b parts)) ≡ true
    step true parts = refl
    step false [] = refl
    step false (part ∷ parts) = refl

-- a part before another one is ended
with_ends-front : (text : List ℕ) (parts : List (List ℕ)) → is_split parts ≡ true
    → with_ends (text ∷ parts) ≡ (text, true) ∷ with_ends parts
unfolding is_split
with_ends-front text [] there = absurd (false≢true there)
with_ends-front [] (part ∷ parts) there = refl
with_ends-front (b ∷ bs) (part ∷ parts) there = refl

split-front : (text more : List ℕ) → is_one_line text ≡ true
    → split_at 10 (text ++ 10 ∷ more) ≡ text ∷ split_at 10 more
split-front [] more one = refl
split-front (b ∷ bs) more one = step (b == 10) (and_parts (not (b == 10)) (is_one_line bs) one) (split-front bs more)
  where
    step : (t : Bool) → (not t ≡ true) × (is_one_line bs ≡ true)
        → (is_one_line bs ≡ true → split_at 10 (bs ++ 10 ∷ more) ≡ bs ∷ split_at 10 more)
        → cond t ([] ∷ split_at 10 (bs ++ 10 ∷ more)) (onto_first b (split_at 10 (bs ++ 10 ∷ more)))
        ≡ (b ∷ bs) ∷ split_at 10 more
    step true both rest = absurd (false≢true both.0)
    step false both rest = ap (onto_first b) (rest both.1)

split-alone : (text : List ℕ) → is_one_line text ≡ true → split_at 10 text ≡ text ∷ []
split-alone [] one = refl
split-alone (b ∷ bs) one = step (b == 10) (and_parts (not (b == 10)) (is_one_line bs) one) (split-alone bs)
  where
    step : (t : Bool) → (not t ≡ true) × (is_one_line bs ≡ true)
        → (is_one_line bs ≡ true → split_at 10 bs ≡ bs ∷ [])
        → cond t ([] ∷ split_at 10 bs) (onto_first b (split_at 10 bs)) ≡ (b ∷ bs) ∷ []
    step true both rest = absurd (false≢true both.0)
    step false both rest = ap (onto_first b) (rest both.1)

-- a text before a line feed is the first line
pub texts_of-ended : (text more : List ℕ) → is_one_line text ≡ true
    → texts_of (text ++ 10 ∷ more) ≡ (text, true) ∷ texts_of more
texts_of-ended text more one = ap with_ends (split-front text more one)
    ∙ with_ends-front text (split_at 10 more) (split-there more)

-- a text without one is the only line, where it is not empty
pub texts_of-unended : (text : List ℕ) → is_one_line text ≡ true → 0 < length text
    → texts_of text ≡ (text, false) ∷ []
texts_of-unended text one some = ap with_ends (split-alone text one) ∙ last text some
  where
    last : (text : List ℕ) → 0 < length text → with_ends (text ∷ []) ≡ (text, false) ∷ []
    last [] some = absurd (omega arith)
    last (b ∷ bs) some = refl
