-- Private: a concatenation of many.
use Rattle.std.specs.Prelude.{Bool, true, false, List, [], ◌∷◌}
use Rattle.sb_lang.specs.Regex.{Regex, none, eps, cat}

-- the heads one behind the other, then the last
unfoldable pub chain : List Regex → Regex → Regex
chain [] last = last
chain (r ∷ rs) last = cat r (chain rs last)

unfoldable pub is_cat : Regex → Bool
is_cat (cat a b) = true
is_cat r = false

-- neither none nor of the empty word alone
unfoldable pub is_plain : Regex → Bool
is_plain none = false
is_plain eps = false
is_plain r = true
