use Rattle.std.proofs.Common.{[], ◌∷◌, false}
use Rattle.sb_rulebook.specs.Gates.{gate}
use Rattle.sb_atoms.proofs.GateFacts.{part_more}
use Rattle.sb_atoms.proofs.Gathering.{mapped-all}
use Rattle.sb_atoms.proofs.gates.say_parts.Goals as goal

pub loop-literal-preserved : goal.loop-literal-preserved
loop-literal-preserved c =
    part_more c.args.atom c.args.literals.now c.loop-literal.literal-index _ c.gate.result _ _ _
    c.loop-literal-test.true c.loop-literal.invariant c.gate.ensures c.in_ok-say.ensures

pub returns : goal.returns
returns c =
    mapped-all (λ l. gate c.args.atom false ∷ l ∷ []) c.args.literals.now c.loop-literal.literal-index
    c.args.said.now.items c.loop-literal.said.items c.loop-literal-test.false c.loop-literal.invariant
