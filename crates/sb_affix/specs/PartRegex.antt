-- Private: the regex of a part of an end of a word.
use Rattle.std.specs.Prelude.{ℕ, List, [], ◌∷◌}
use Rattle.sb_lang.specs.Regex.{Regex, eps, set}
use Rattle.sb_lang.specs.Constructors.{mkcat, mkalt}
use Rattle.sb_lang.specs.Normal.{word_regex}
use Rattle.sb_lang.specs.Affixes.{prefixes}
use Rattle.sb_affix.specs.declared.ends.Part.{Part}
use Rattle.sb_affix.specs.declared.ends.Part.TheVariants as part

abbrev pub part_regex : Part → List ℕ → Regex
part_regex part.Whole = word_regex
part_regex part.Prefix = prefixes

-- that of an end, made of that of the end behind its first character
abbrev pub with_front : Part → ℕ → Regex → Regex
with_front part.Whole c r = mkcat (set ((c, c) ∷ [])) r
with_front part.Prefix c r = mkalt (eps ∷ mkcat (set ((c, c) ∷ [])) r ∷ [])
