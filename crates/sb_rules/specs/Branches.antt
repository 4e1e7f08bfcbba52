-- The branches of an expansion, by the numbers of their targets in an arena.
use Rattle.std.specs.Prelude.{ℕ, List, [], ◌∷◌}
use Rattle.sb_lang.specs.Regex.{Regex}
use Rattle.sb_regex.specs.Numbered.{regex_at}
use Rattle.sb_rulebook.specs.Expansions.{Branch}
use Rattle.sb_proof.specs.declared.line.Class.{Class}

-- each class with the regex of its target
abbrev pub branches_at : List Regex → List Class → List ℕ → List Branch
branches_at rs [] ids = []
branches_at rs (k ∷ ks) [] = []
branches_at rs (k ∷ ks) (id ∷ ids) = (k.ranges.items, regex_at rs id) ∷ branches_at rs ks ids
