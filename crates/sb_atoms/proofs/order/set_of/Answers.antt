use Rattle.std.proofs.Common.{◌∙◌, sym, ap}
use Rattle.sb_atoms.proofs.Ordered.{onto, onto_nothing, onto_last, onto_none}
use Rattle.sb_atoms.proofs.order.set_of.Goals as goal

pub loop-literal-init : goal.loop-literal-init
loop-literal-init c = ap (onto c.args.literals.items) c.new-set.ensures.empty ∙ onto_nothing c.args.literals.items

pub loop-literal-preserved : goal.loop-literal-preserved
loop-literal-preserved c =
    ap (onto c.pop.new.self.items) c.in_ok-insert.ensures.keys
    ∙ sym (onto_last c.pop.new.self.items c.loop-literal.set.keys c.in-Some.literal)
    ∙ ap (λ ls. onto ls c.loop-literal.set.keys) (sym c.in-Some.ensures.items)
    ∙ c.loop-literal.invariant

pub returns : goal.returns
returns c = onto_none c.loop-literal.literals c.loop-literal.set.keys c.in_default.ensures.cases.0 ∙ c.loop-literal.invariant
