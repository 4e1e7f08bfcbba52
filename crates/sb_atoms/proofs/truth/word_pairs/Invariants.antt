use Rattle.std.proofs.Common.{true, take}
use Rattle.sb_regex.specs.Numbered.{Extends}
use Rattle.sb_fragment.specs.Shapes.{terms_of_pairs}
use Rattle.sb_atoms.specs.Truths.{AreReady, AreAsWanted}
use Rattle.sb_atoms.proofs.truth.word_pairs.Given as goal

abbrev pub invariant-loop-one : goal.invariant-loop-one
invariant-loop-one l =
    AreAsWanted l.values l.distinct (terms_of_pairs l.table l.pairs)
    (terms_of_pairs l.table (take l.one-index l.pairs)) true
    × Extends l.fn.arena l.arena
    × AreReady l.table l.arena l.normals l.plain
