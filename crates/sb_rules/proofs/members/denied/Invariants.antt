use Rattle.std.proofs.Common.{take}
use Rattle.sb_rules.specs.Refuting.{AreDenied}
use Rattle.sb_rules.proofs.members.denied.Given as goal

abbrev pub invariant-loop-literal : goal.invariant-loop-literal
invariant-loop-literal l = AreDenied l.fn.arena l.atoms l.arena l.ids.items (take l.literal-index l.literals)
