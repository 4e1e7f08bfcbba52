-- A line of a proof in front of the bytes behind it.
use Rattle.std.proofs.Common.{◌≡◌, ℕ, true, List, [], ◌∷◌, ◌++◌, refl, sym, ap, ◌∙◌, append_assoc}
use Rattle.std.proofs.lemmas.Bool.{and_from}
use Rattle.std.proofs.lemmas.List.{append-nil}
use Rattle.sb_rulebook.specs.LineLaws.{is_one_line}
use Rattle.sb_rulebook.specs.Reading.{texts_of}
use Rattle.sb_sound.specs.Certified.{AreWholeLines}
use Rattle.sb_input.proofs.CallerLemmas.{texts_of-ended}

-- the bytes of a line that a line feed ends
abbrev pub with_feed : List ℕ → List ℕ
with_feed text = text ++ 10 ∷ []

pub line_whole : (text : List ℕ) → is_one_line text ≡ true → AreWholeLines (with_feed text)
line_whole text one = (text ∷ [], (sym (append-nil (with_feed text)), and_from (is_one_line text) true one refl))

pub line_in_front : (text more : List ℕ) → is_one_line text ≡ true
    → texts_of (with_feed text ++ more) ≡ (text, true) ∷ texts_of more
line_in_front text more one = ap texts_of (append_assoc text (10 ∷ []) more) ∙ texts_of-ended text more one

-- the line that was found is the text
pub line_split : (whole text line rest : List ℕ) → text ≡ line → whole ≡ line ++ 10 ∷ rest
    → whole ≡ with_feed text ++ rest
line_split whole text line rest same split =
    split ∙ ap (λ (xs : List ℕ). xs ++ 10 ∷ rest) (sym same) ∙ sym (append_assoc text (10 ∷ []) rest)
