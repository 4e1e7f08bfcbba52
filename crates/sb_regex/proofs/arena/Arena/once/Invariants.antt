use Rattle.sb_regex.proofs.Once.{OnceSoFar}
use Rattle.sb_regex.proofs.arena.Arena.once.Given as goal

abbrev pub invariant-loop-id : goal.invariant-loop-id
invariant-loop-id l = OnceSoFar l.self l.seen.keys l.ids l.id-index
