use Rattle.std.proofs.Common.{◌-◌, false, length, sym, arith, ◌∙◌}
use Rattle.std.proofs.lemmas.List.{get_or_default}
use Rattle.sb_lit.specs.declared.clause.Lit.{Lit}
use Rattle.sb_atoms.proofs.Growth.{gates_none, gates_both, gates_longer}
use Rattle.sb_atoms.proofs.Connected.{all_below_more, below_at, not_zero, implied_start, implied_step, implied_missing, implied_end}
use Rattle.sb_atoms.proofs.table.Atoms.implications.Goals as goal

abbrev first : Lit
first = record { atom = 0; positive = false }

pub loop-left-init : goal.loop-left-init
loop-left-init c =
    let n = not_zero (length c.args.literals.now) (sym c.if-is_empty.false ∙ c.is_empty.ensures) in
    implied_start c.args.adds c.args.self.now c.args.literals.now (length c.args.literals.now - 1) _ n
    (get_or_default c.args.literals.now (length c.args.literals.now - 1) first _ (omega (arith, n))) c.requires
    (gates_none c.args.adds c.args.self.now)

pub implication-requires-clause-one : goal.implication-requires-clause-one
implication-requires-clause-one c =
    let h = c.loop-left.invariant in
    below_at (length c.loop-left.self) c.args.literals.now (c.loop-left.left - 1) _
    (all_below_more (length c.args.self.now) (length c.loop-left.self) c.args.literals.now
    (gates_longer c.args.adds c.args.self.now c.loop-left.self h.grows) c.requires)
    (omega (arith, h.within)) (get_or_default c.args.literals.now (c.loop-left.left - 1) first _ (omega (arith, h.within)))

pub returns-in_err-literal-clause-grows : goal.returns-in_err-literal-clause-grows
returns-in_err-literal-clause-grows c =
    gates_both c.args.adds c.args.self.now c.loop-left.self c.implication.new.self c.loop-left.invariant.grows
    c.implication.ensures.grows

pub returns-in_default-clause-grows : goal.returns-in_default-clause-grows
returns-in_default-clause-grows c =
    gates_both c.args.adds c.args.self.now c.loop-left.self c.implication.new.self c.loop-left.invariant.grows
    c.implication.ensures.grows

pub returns-in_default-clause-ok : goal.returns-in_default-clause-ok
returns-in_default-clause-ok c =
    let h = c.loop-left.invariant in
    implied_missing c.args.adds c.args.self.now c.loop-left.self c.implication.new.self c.args.literals.now
    (c.loop-left.left - 1) c.loop-left.left c.loop-left.last _ c.in_ok-literal.field-0 h
    (omega (arith, c.loop-left-test.true))
    (get_or_default c.args.literals.now (c.loop-left.left - 1) first _ (omega (arith, h.within))) c.in_default.is
    c.in_ok-literal.ensures.ok c.implication.ensures.grows

pub loop-left-preserved : goal.loop-left-preserved
loop-left-preserved c =
    let h = c.loop-left.invariant in
    implied_step c.args.adds c.args.self.now c.loop-left.self c.implication.new.self c.args.literals.now
    (c.loop-left.left - 1) c.loop-left.left c.loop-left.last _ c.in-Some.literal c.in_ok-literal.field-0 h
    (omega (arith, c.loop-left-test.true))
    (get_or_default c.args.literals.now (c.loop-left.left - 1) first _ (omega (arith, h.within))) c.in-Some.is
    c.in_ok-literal.ensures.ok c.implication.ensures.grows

pub returns-clause-ok : goal.returns-clause-ok
returns-clause-ok c =
    implied_end c.args.adds c.args.self.now c.loop-left.self c.args.literals.now c.loop-left.left c.loop-left.last
    c.loop-left.invariant (omega (arith, c.loop-left-test.false))
