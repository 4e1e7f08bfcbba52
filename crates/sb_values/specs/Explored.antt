-- What a search leaves of what is known of regexes.
use Rattle.std.specs.Prelude.{List}
use Rattle.sb_lang.specs.Regex.{Regex}
use Rattle.sb_regex.specs.Numbered.{Extends}
use Rattle.sb_deriv.specs.Faithful.{KeepsEntries}
use Rattle.sb_graph.specs.Findings.{Findings, IsGraph, KeepsMarks}

-- Regexes and derivatives may be added and regexes marked as dead, and what is known of them is right.
pub record Explores (rs more : List Regex) (old new : Findings) : Type 0 where
  pub extends : Extends rs more
  pub graph : IsGraph more new
  pub derivatives : KeepsEntries old.memo new.memo
  pub marks : KeepsMarks old.dead new.dead
