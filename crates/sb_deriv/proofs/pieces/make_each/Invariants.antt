use Rattle.sb_deriv.specs.Choices.{AreConstants, AreMade}
use Rattle.sb_deriv.proofs.Making.{Making}
use Rattle.sb_deriv.proofs.pieces.make_each.Given as goal

abbrev pub invariant-loop-place : goal.invariant-loop-place
invariant-loop-place l = Making l.choices l.fn.arena l.arena l.operation l.place l.pieces.items
    × AreMade l.arena l.operation l.choices l.known.items × AreConstants l.arena l.constants
