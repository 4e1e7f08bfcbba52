-- The law of the test of an expansion.
use Rattle.std.specs.Prelude.{◌≡◌, true, ◌↔◌, List}
use Rattle.sb_lang.specs.Regex.{Regex}
use Rattle.sb_rulebook.specs.Expansions.{Branch, IsExpansion, is_expansion}

-- the test looks at finitely many characters, and decides of all
abbrev pub TestDecidesExpansion : Type 0
TestDecidesExpansion = (r : Regex) (ps : List Branch) → (is_expansion r ps ≡ true) ↔ IsExpansion r ps
