use Rattle.sb_regex.proofs.Measured.{AreAll}
use Rattle.sb_regex.proofs.arena.Arena.all_lengths.Given as goal

abbrev pub invariant-loop-id : goal.invariant-loop-id
invariant-loop-id l = AreAll l.self l.ids l.id-index l.lengths
