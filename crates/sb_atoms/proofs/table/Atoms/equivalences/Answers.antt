use Rattle.std.proofs.Common.{false, ap, get_or, length, [], ◌∷◌, ◌++◌, arith, ◌∙◌}
use Rattle.std.proofs.lemmas.Bool.{and_parts}
use Rattle.std.proofs.lemmas.List.{get_or_default}
use Rattle.sb_lit.specs.declared.clause.Lit.{Lit}
use Rattle.sb_atoms.specs.Growing.{is_below}
use Rattle.sb_atoms.proofs.Growth.{gates_both, gates_longer}
use Rattle.sb_atoms.proofs.Connected.{pair_below_at, pairs_below_more, compared_start, compared_step, compared_missing, compared_end}
use Rattle.sb_atoms.proofs.table.Atoms.equivalences.Goals as goal

abbrev first : Lit × Lit
first = (record { atom = 0; positive = false }, record { atom = 0; positive = false })

pub loop-one-init : goal.loop-one-init
loop-one-init c =
    compared_start c.args.adds c.args.distinct c.args.self.now c.new-literals.result.items c.new-literals.ensures.items

pub equivalence-requires-clause-one : goal.equivalence-requires-clause-one
equivalence-requires-clause-one c =
    let h = c.loop-one.invariant in
    (and_parts (is_below (length c.loop-one.self) (get_or c.args.pairs.now c.loop-one.one-index first).0) _
    (pair_below_at (length c.loop-one.self) c.args.pairs.now c.loop-one.one-index _
    (pairs_below_more (length c.args.self.now) (length c.loop-one.self) c.args.pairs.now
    (gates_longer c.args.adds c.args.self.now c.loop-one.self h.grows) c.requires) c.loop-one-test.true
    (get_or_default c.args.pairs.now c.loop-one.one-index first _ c.loop-one-test.true))).0

pub equivalence-requires-clause-other : goal.equivalence-requires-clause-other
equivalence-requires-clause-other c =
    let h = c.loop-one.invariant in
    (and_parts (is_below (length c.loop-one.self) (get_or c.args.pairs.now c.loop-one.one-index first).0) _
    (pair_below_at (length c.loop-one.self) c.args.pairs.now c.loop-one.one-index _
    (pairs_below_more (length c.args.self.now) (length c.loop-one.self) c.args.pairs.now
    (gates_longer c.args.adds c.args.self.now c.loop-one.self h.grows) c.requires) c.loop-one-test.true
    (get_or_default c.args.pairs.now c.loop-one.one-index first _ c.loop-one-test.true))).1

pub returns-in_err-literal-clause-grows : goal.returns-in_err-literal-clause-grows
returns-in_err-literal-clause-grows c =
    gates_both c.args.adds c.args.self.now c.loop-one.self c.equivalence.new.self c.loop-one.invariant.grows
    c.equivalence.ensures.grows

pub returns-in_default-clause-grows : goal.returns-in_default-clause-grows
returns-in_default-clause-grows c =
    gates_both c.args.adds c.args.self.now c.loop-one.self c.equivalence.new.self c.loop-one.invariant.grows
    c.equivalence.ensures.grows

pub returns-in_err-push-clause-grows : goal.returns-in_err-push-clause-grows
returns-in_err-push-clause-grows c =
    gates_both c.args.adds c.args.self.now c.loop-one.self c.equivalence.new.self c.loop-one.invariant.grows
    c.equivalence.ensures.grows

pub returns-in_default-clause-ok : goal.returns-in_default-clause-ok
returns-in_default-clause-ok c =
    compared_missing c.args.adds c.args.distinct c.equivalence.new.self c.args.pairs.now c.loop-one.one-index
    (get_or c.args.pairs.now c.loop-one.one-index first) c.in_ok-literal.field-0 c.loop-one-test.true
    (get_or_default c.args.pairs.now c.loop-one.one-index first _ c.loop-one-test.true) c.in_default.is
    c.in_ok-literal.ensures.ok

pub loop-one-preserved : goal.loop-one-preserved
loop-one-preserved c =
    compared_step c.args.adds c.args.distinct c.args.self.now c.loop-one.self c.equivalence.new.self c.args.pairs.now
    c.loop-one.one-index (get_or c.args.pairs.now c.loop-one.one-index first) c.loop-one.literals.items
    c.push.new.self.items c.in-Some.literal c.in_ok-literal.field-0 c.loop-one.invariant c.loop-one-test.true
    (get_or_default c.args.pairs.now c.loop-one.one-index first _ c.loop-one-test.true) c.in-Some.is
    c.in_ok-literal.ensures.ok c.equivalence.ensures.grows
    (c.in_ok-push.ensures.items ∙ ap (λ l. c.loop-one.literals.items ++ l ∷ []) c.signed.ensures)

pub returns-clause-ok : goal.returns-clause-ok
returns-clause-ok c =
    compared_end c.args.adds c.args.distinct c.args.self.now c.loop-one.self c.args.pairs.now c.loop-one.one-index
    c.loop-one.literals.items c.loop-one.invariant (omega (arith, c.loop-one-test.false))
