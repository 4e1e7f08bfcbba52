use Rattle.std.proofs.Common.{arith}
use Rattle.sb_problem.proofs.Leaves.{named, first_not_one, second_not_one, rising, reversed}
use Rattle.sb_problem.proofs.literals.between.Goals as goal
use Rattle.sb_problem.proofs.literals.between.Goals.{in_default-via-then-from-lt1, in_default-via-else-from-lt1+else-from-lt2, in_default-to-via-then-to-lt1, in_default-to-via-else-to-lt1+else-to-lt2}

pub returns-in_default-clause-names : goal.returns-in_default-clause-names
returns-in_default-clause-names c =
    named _ c.none.result _ _ (first_not_one c.args.from.now c.args.to.now (λ one. elim c.in_default.branch [
      | in_default-via-then-from-lt1 w ↦ grind arith
      | in_default-via-else-from-lt1+else-from-lt2 w ↦ grind arith
    ])) c.none.ensures.ok

pub returns-in_default-to-clause-names : goal.returns-in_default-to-clause-names
returns-in_default-to-clause-names c =
    named _ c.none-in_default-to.result _ _
    (second_not_one c.args.from.now c.args.to.now (λ one. elim c.in_default-to.branch [
      | in_default-to-via-then-to-lt1 w ↦ grind arith
      | in_default-to-via-else-to-lt1+else-to-lt2 w ↦ grind arith
    ])) c.none-in_default-to.ensures.ok

pub returns-in_ok-class-clause-names : goal.returns-in_ok-class-clause-names
returns-in_ok-class-clause-names c = named _ c.set.result _ _
    (rising c.args.from.now c.args.to.now c.in_ok-class.class c.same_members.ensures c.requires (omega arith)
    (omega arith) (omega arith) (omega arith) c.if-low-high.true (rw (← c.class.view_is) c.class.invariant)
    c.in_ok-class.ensures)
    c.set.ensures.ok

pub returns-else-low-high-clause-names : goal.returns-else-low-high-clause-names
returns-else-low-high-clause-names c = named _ c.none-else-low-high.result _ _
    (reversed c.args.from.now c.args.to.now (omega arith) (omega arith) (omega arith) (omega arith) c.if-low-high.false)
    c.none-else-low-high.ensures.ok
