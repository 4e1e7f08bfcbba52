-- Laws of what is known of terms.
use Rattle.std.specs.Prelude.{List}
use Rattle.sb_lang.specs.Regex.{Regex}
use Rattle.sb_meaning.specs.Terms.{Term}
use Rattle.sb_regex.specs.Numbered.{Extends}
use Rattle.sb_term.specs.Numbered as table
use Rattle.sb_problem.specs.declared.normals.Known.{Known}
use Rattle.sb_problem.specs.Known.{AreNormals}

-- more terms and more regexes change nothing
abbrev pub NormalsStay : Type 0
NormalsStay = (ts more : List Term) (rs new : List Regex) (ks : List Known) → table.Extends ts more → Extends rs new
    → AreNormals ts rs ks → AreNormals more new ks
