-- Laws of graphs.
use Rattle.std.specs.Prelude.{◌≡◌, ℕ, true, List}
use Rattle.sb_lang.specs.Regex.{Regex}
use Rattle.sb_lang.specs.Language.{language}
use Rattle.sb_regex.specs.Numbered.{regex_at, Extends}
use Rattle.sb_graph.specs.Findings.{Findings, is_marked, IsGraph}
use Rattle.sb_lang.specs.Least.{HasNoWord}

-- more regexes change nothing
abbrev pub GraphStays : Type 0
GraphStays = (old new : List Regex) (g : Findings) → Extends old new → IsGraph old g → IsGraph new g

-- a regex with a mark has no word
abbrev pub MarkedHasNoWord : Type 0
MarkedHasNoWord = (rs : List Regex) (g : Findings) (n : ℕ) → IsGraph rs g → is_marked g.dead n ≡ true
    → HasNoWord (language (regex_at rs n))
