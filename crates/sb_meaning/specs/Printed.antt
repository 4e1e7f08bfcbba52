-- How values are printed: words as literals between quotes, numbers as `5` and `(- 5)`, truth values by name.
use Rattle.std.specs.Prelude.{ℕ, true, false, List, [], ◌∷◌, ◌++◌, codes}
use Rattle.sb_word.specs.Literals.{literal_text}
use Rattle.sb_word.specs.Numerals.{int_text}
use Rattle.sb_meaning.specs.Values.{Value, Text, Int, Truth}

abbrev pub printed : Value → List ℕ
printed (Text w) = 34 ∷ (literal_text w ++ 34 ∷ [])
printed (Int n) = int_text n
printed (Truth true) = codes "true"
printed (Truth false) = codes "false"
