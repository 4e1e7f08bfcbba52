use Rattle.sb_deriv.proofs.Waiting.{Wanting}
use Rattle.sb_deriv.proofs.deriver.Deriver.want.Given as goal

abbrev pub invariant-loop-part : goal.invariant-loop-part
invariant-loop-part l = Wanting l.self l.parts l.part-index l.some l.fn.waiting.keys l.waiting.keys
