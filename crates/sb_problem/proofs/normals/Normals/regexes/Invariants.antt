use Rattle.std.proofs.Common.{take}
use Rattle.sb_regex.specs.Numbered.{Extends}
use Rattle.sb_term.specs.Numbered.{terms_at}
use Rattle.sb_problem.specs.Known.{AreNormals, KnowsMore}
use Rattle.sb_problem.specs.Shapes.{AreRegexesOf}
use Rattle.sb_problem.proofs.normals.Normals.regexes.Given as goal

abbrev pub invariant-loop-id : goal.invariant-loop-id
invariant-loop-id l =
    AreRegexesOf l.arena (terms_at l.fn.table (take l.id-index l.fn.ids)) l.found.items
    × Extends l.fn.arena l.arena
    × AreNormals l.fn.table l.arena l.self
    × KnowsMore l.fn.self l.self
