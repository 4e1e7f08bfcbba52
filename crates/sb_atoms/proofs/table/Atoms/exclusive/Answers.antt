use Rattle.std.proofs.Common.{◌-◌, ◌+◌, ◌∷◌, false, get_or, take, drop, length, sym, ap, arith, ◌∙◌}
use Rattle.std.proofs.lemmas.Bool.{and_parts}
use Rattle.std.proofs.lemmas.List.{get_or_default, take_more, take_all}
use Rattle.sb_lit.specs.declared.clause.Lit.{Lit}
use Rattle.sb_atoms.specs.Growing.{is_below, are_below}
use Rattle.sb_atoms.proofs.Growth.{gates_none, gates_both, gates_longer}
use Rattle.sb_atoms.proofs.Connected.{all_below_more, below_at, excluded_start, excluded_step, excluded_missing, excluded_end, cut_at}
use Rattle.sb_atoms.proofs.table.Atoms.exclusive.Goals as goal

abbrev first : Lit
first = record { atom = 0; positive = false }

pub loop-other-init : goal.loop-other-init
loop-other-init c =
    excluded_start c.args.adds c.args.self.now c.args.literals.now first c.in-len1-up.len_at_least c.requires
    (gates_none c.args.adds c.args.self.now)

pub equivalence-requires-clause-one : goal.equivalence-requires-clause-one
equivalence-requires-clause-one c = c.loop-other.invariant.2.below

pub equivalence-requires-clause-other : goal.equivalence-requires-clause-other
equivalence-requires-clause-other c =
    let h = c.loop-other.invariant in
    let others = take (length c.args.literals.now - 1) (drop 1 c.args.literals.now) in
    below_at (length c.loop-other.self) others c.loop-other.other-index _
    (all_below_more (length c.args.self.now) (length c.loop-other.self) others
    (gates_longer c.args.adds c.args.self.now c.loop-other.self h.2.grows)
    (and_parts (is_below (length c.args.self.now) h.0) (are_below (length c.args.self.now) others)
    (ap (are_below (length c.args.self.now)) (sym h.1) ∙ c.requires)).1)
    c.loop-other-test.true (get_or_default others c.loop-other.other-index first _ c.loop-other-test.true)

pub returns-in_err-literal-clause-grows : goal.returns-in_err-literal-clause-grows
returns-in_err-literal-clause-grows c =
    gates_both c.args.adds c.args.self.now c.loop-other.self c.equivalence.new.self c.loop-other.invariant.2.grows
    c.equivalence.ensures.grows

pub returns-in_default-2-clause-grows : goal.returns-in_default-2-clause-grows
returns-in_default-2-clause-grows c =
    gates_both c.args.adds c.args.self.now c.loop-other.self c.equivalence.new.self c.loop-other.invariant.2.grows
    c.equivalence.ensures.grows

pub returns-clause-grows : goal.returns-clause-grows
returns-clause-grows c = c.loop-other.invariant.2.grows

pub returns-in_default-2-clause-ok : goal.returns-in_default-2-clause-ok
returns-in_default-2-clause-ok c =
    let h = c.loop-other.invariant in
    let others = take (length c.args.literals.now - 1) (drop 1 c.args.literals.now) in
    let i = c.loop-other.other-index in
    excluded_missing c.args.adds c.args.self.now c.loop-other.self c.equivalence.new.self h.0 c.loop-other.first
    (get_or others i first) (take i others) (drop (i + 1) others) c.args.literals.now c.in_ok-literal.field-0 h.2
    (h.1 ∙ ap (λ xs. h.0 ∷ xs) (cut_at others i first c.loop-other-test.true)) c.in_default-2.is
    c.in_ok-literal.ensures.ok c.equivalence.ensures.grows

pub loop-other-preserved : goal.loop-other-preserved
loop-other-preserved c =
    let h = c.loop-other.invariant in
    let others = take (length c.args.literals.now - 1) (drop 1 c.args.literals.now) in
    let i = c.loop-other.other-index in (
      h.0,
      h.1,
      rw c.negated-first.ensures (excluded_step c.args.adds c.args.self.now c.loop-other.self c.equivalence.new.self h.0
          c.loop-other.first (get_or others i first) c.in-Some.literal (take i others) (take (i + 1) others)
          c.in_ok-literal.field-0 h.2 (take_more others i first c.loop-other-test.true) c.in-Some.is
          c.in_ok-literal.ensures.ok c.equivalence.ensures.grows),
    )

pub returns-clause-ok : goal.returns-clause-ok
returns-clause-ok c =
    let h = c.loop-other.invariant in
    let others = take (length c.args.literals.now - 1) (drop 1 c.args.literals.now) in
    excluded_end c.args.adds c.args.self.now c.loop-other.self h.0 c.loop-other.first
    (take c.loop-other.other-index others) c.args.literals.now h.2
    (h.1 ∙ ap (λ xs. h.0 ∷ xs) (sym (take_all c.loop-other.other-index others (omega (arith, c.loop-other-test.false)))))
