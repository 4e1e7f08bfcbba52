-- The lines of bytes that are texts with a line feed behind each.
use Rattle.std.proofs.Common.{◌≡◌, ℕ, Bool, true, false, cond, ◌==◌, List, [], ◌∷◌, ◌++◌, map, Ok, Err, Result, refl, sym, ap, ap₂, ◌∙◌}
use Rattle.std.specs.List.{list_all, onto_first}
use Rattle.std.proofs.lemmas.Bool.{and_parts, false≢true}
use Rattle.std.proofs.lemmas.List.{append-nil, append_assoc}
use Rattle.sb_script.specs.Steps.{line}
use Rattle.sb_rulebook.specs.Refusals.{Refusal}
use Rattle.sb_rulebook.specs.Lines.{Line, text_of}
use Rattle.sb_rulebook.specs.Reading.{split_at, LineText, with_ends, texts_of, if_ended, read}
use Rattle.sb_rulebook.specs.LineLaws.{has_text, is_one_line, bytes_of, ended, TextsAreLines, PrintedLinesAreRead, PrintedProofIsRead}
use Rattle.sb_rulebook.proofs.ListFacts.{all-map}
use Rattle.sb_rulebook.proofs.DigitFacts.{split-front}
use Rattle.sb_rulebook.proofs.ReadLines.{text_is_read, text_is_one_line}

-- there is a part
is_split : List (List ℕ) → Bool
is_split [] = false
is_split (part ∷ parts) = true

split-there : (c : ℕ) (bytes : List ℕ) → is_split (split_at c bytes) ≡ true
unfolding is_split
split-there c [] = refl
split-there c (b ∷ bytes) = step (b == c) (split_at c bytes)
  where
    step : (t : Bool) (parts : List (List ℕ)) → is_split (cond t ([] ∷ parts) (onto_first b parts)) ≡ true
    step true parts = refl
    step false [] = refl
    step false (part ∷ parts) = refl

-- a part before another one is ended
with-ends-front : (text : List ℕ) (parts : List (List ℕ)) → is_split parts ≡ true
    → with_ends (text ∷ parts) ≡ ended text ∷ with_ends parts
unfolding is_split
with-ends-front text [] there = absurd (false≢true there)
with-ends-front [] (part ∷ parts) there = refl
with-ends-front (b ∷ bs) (part ∷ parts) there = refl

text-front : (text more : List ℕ) → is_one_line text ≡ true
    → texts_of (text ++ 10 ∷ more) ≡ ended text ∷ texts_of more
text-front text more one = ap with_ends (split-front 10 text more one)
    ∙ with-ends-front text (split_at 10 more) (split-there 10 more)

pub texts_are_lines : TextsAreLines
texts_are_lines [] more all = refl
texts_are_lines (text ∷ texts) more all =
    let parts = and_parts (is_one_line text) (list_all is_one_line texts) all in
    ap texts_of (append_assoc (line text) (bytes_of texts) more ∙ append_assoc text (10 ∷ []) (bytes_of texts ++ more))
    ∙ text-front text (bytes_of texts ++ more) parts.0
    ∙ ap (λ lines. ended text ∷ lines) (texts_are_lines texts more parts.1)

-- a printed line is read
read-printed : (printed : Line) → has_text printed ≡ true → read (ended (text_of printed)) ≡ Ok printed
read-printed printed there =
    ap (λ r. elim r as (λ _. Result Line Refusal) [ Ok l ↦ if_ended true l | Err refusal ↦ Err refusal ])
    (text_is_read printed there)

read-all : (printed : List Line) (rest : List LineText) → list_all has_text printed ≡ true
    → map read (map ended (map text_of printed) ++ rest) ≡ map Ok printed ++ map read rest
read-all [] rest all = refl
read-all (l ∷ ls) rest all =
    let parts = and_parts (has_text l) (list_all has_text ls) all in
    ap₂ (λ r rs. r ∷ rs) (read-printed l parts.0) (read-all ls rest parts.1)

texts-one-line : (printed : List Line) → list_all is_one_line (map text_of printed) ≡ true
texts-one-line = all-map is_one_line text_of text_is_one_line

pub printed_lines_are_read : PrintedLinesAreRead
printed_lines_are_read printed more all =
    ap (map read) (texts_are_lines (map text_of printed) more (texts-one-line printed))
    ∙ read-all printed (texts_of more) all

pub printed_proof_is_read : PrintedProofIsRead
printed_proof_is_read printed all =
    ap (λ bytes. map read (texts_of bytes)) (sym (append-nil (bytes_of (map text_of printed))))
    ∙ printed_lines_are_read printed [] all ∙ append-nil (map Ok printed)
