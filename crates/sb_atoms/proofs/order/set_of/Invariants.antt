use Rattle.std.proofs.Common.{◌≡◌, vec_len}
use Rattle.sb_rulebook.specs.Translation.{in_order}
use Rattle.sb_atoms.proofs.Ordered.{onto}
use Rattle.sb_atoms.proofs.order.set_of.Given as goal

abbrev pub invariant-loop-literal : goal.invariant-loop-literal
invariant-loop-literal l = onto l.literals.items l.set.keys ≡ in_order l.fn.literals.items

abbrev pub decreases-loop-literal : goal.decreases-loop-literal
decreases-loop-literal l = vec_len l.literals
