-- What a regex is made of.
use Rattle.std.specs.Prelude.{List, [], ◌∷◌}
use Rattle.sb_lang.specs.Regex.{Regex, cat, alt, and, neg, star, rep, path, parts}

-- the regexes that a regex is made of
abbrev pub regex_parts : Regex → List Regex
regex_parts (cat a b) = a ∷ b ∷ []
regex_parts (alt ps) = parts ps
regex_parts (and ps) = parts ps
regex_parts (neg a) = a ∷ []
regex_parts (star a) = a ∷ []
regex_parts (rep a n m) = a ∷ []
regex_parts (path a b) = a ∷ b ∷ []
regex_parts _ = []
