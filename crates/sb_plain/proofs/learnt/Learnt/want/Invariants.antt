use Rattle.sb_plain.proofs.Waiting.{Wanting}
use Rattle.sb_plain.proofs.learnt.Learnt.want.Given as goal

abbrev pub invariant-loop-part : goal.invariant-loop-part
invariant-loop-part l = Wanting l.self l.c l.parts l.part-index l.some l.targets.items
    l.fn.waiting.keys l.waiting.keys
