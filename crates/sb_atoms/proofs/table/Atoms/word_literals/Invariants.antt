use Rattle.std.proofs.Common.{take}
use Rattle.sb_rulebook.specs.Translation.{word_equality}
use Rattle.sb_atoms.specs.Connecting.{signed}
use Rattle.sb_atoms.specs.Growing.{AreReady}
use Rattle.sb_fragment.specs.Shapes.{terms_of_pairs}
use Rattle.sb_atoms.specs.Shapes.{have_declared_pairs}
use Rattle.sb_atoms.proofs.Found.{Collected}
use Rattle.sb_atoms.proofs.table.Atoms.word_literals.Given as goal

abbrev pub invariant-loop-one : goal.invariant-loop-one
invariant-loop-one l =
    Collected (λ atoms p. signed l.distinct (word_equality atoms p.0 p.1)) l.adds
    (λ sorts. have_declared_pairs sorts (terms_of_pairs l.table l.pairs)) l.fn.arena l.arena l.fn.self l.self
    (take l.one-index (terms_of_pairs l.table l.pairs)) l.literals.items
    × AreReady l.table l.measures l.normals l.arena l.self
