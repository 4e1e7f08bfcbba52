use Rattle.std.proofs.Common.{◌+◌, ◌-◌, ◌<◌, List, length}
use Rattle.sb_lang.specs.Regex.{Regex}
use Rattle.sb_meaning.specs.Terms.{Term}
use Rattle.sb_problem.specs.Known.{AreNormals}
use Rattle.sb_problem.proofs.normals.Normals.lengthen.Given as goal

abbrev pub invariant-loop-id : goal.invariant-loop-id
invariant-loop-id l = (terms : List Term) (regexes : List Regex) → l.fn.id < length terms
    → AreNormals terms regexes l.fn.self → AreNormals terms regexes l.self-inside.known.items

abbrev pub decreases-loop-id : goal.decreases-loop-id
decreases-loop-id l = l.fn.id + 1 - length l.self-inside.known.items
