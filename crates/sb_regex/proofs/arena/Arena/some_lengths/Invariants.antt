use Rattle.sb_regex.proofs.Measured.{AreSome}
use Rattle.sb_regex.proofs.arena.Arena.some_lengths.Given as goal

abbrev pub invariant-loop-id : goal.invariant-loop-id
invariant-loop-id l = AreSome l.self l.ids l.id-index l.lengths
