use Rattle.std.proofs.Common.{arith, ap, ◌∙◌}
use Rattle.sb_clauses.proofs.Scoping.{scoped_more}
use Rattle.sb_clauses.proofs.OccurrenceLemmas.{found_wider, found_more, home_inside}
use Rattle.sb_clauses.proofs.AllDropped.{empty_more}
use Rattle.std.proofs.lemmas.Grind.{common_steps}
use Rattle.std.proofs.lemmas.Result.{IfOk-from_err, MatchResult-from_err}
use Rattle.sb_clauses.specs.Records.{kept_of}
use Rattle.sb_clauses.proofs.clauses.Clauses.add.Goals as goal

pub invariant_of-self : goal.invariant_of-self
invariant_of-self c = (
  c.self.invariant.0,
  found_wider _ _ _ _ _ c.self.invariant.1 c.make_room.ensures.wider,
  c.self.invariant.2,
)

pub invariant_of-self-in_err-scope : goal.invariant_of-self-in_err-scope
invariant_of-self-in_err-scope c = (
  c.scope.ensures.keeps _ c.self.invariant.0,
  found_wider _ _ _ _ _ c.self.invariant.1 c.make_room.ensures.wider,
  c.self.invariant.2,
)

pub invariant_of-self-in_err-push : goal.invariant_of-self-in_err-push
invariant_of-self-in_err-push c = rw c.in_err-push.ensures.items (
  c.scope.ensures.keeps _ c.self.invariant.0,
  found_wider _ _ _ _ _ c.self.invariant.1 c.make_room.ensures.wider,
  c.self.invariant.2,
)

pub put-requires-clause-list : goal.put-requires-clause-list
put-requires-clause-list c =
    omega (arith, home_inside _ _ _ c.in-Some.ensures c.home_for-home.ensures, c.in_ok-make_room.ensures.heads)

pub put-requires-clause-small : goal.put-requires-clause-small
put-requires-clause-small c = (
  omega (arith, c.in_ok-make_room.ensures.small.0),
  omega (arith, home_inside _ _ _ c.in-Some.ensures c.home_for-home.ensures, c.in_ok-make_room.ensures.small.1),
)

pub invariant_of-self-2 : goal.invariant_of-self-2
invariant_of-self-2 c =
    rw c.in_ok-push.ensures.items (
      scoped_more c.self.inside.records.items _ _ c.len-number.result
          (omega (arith, c.len-number.ensures, c.self.inside.records.ok.0))
          (c.scope.ensures.keeps _ c.self.invariant.0) c.in_ok-scope.ensures.there,
      found_more c.self.inside.records.items _ _ _ _ _ c.len-number.result c.home_for-home.result
          (found_wider _ _ _ _ _ c.self.invariant.1 c.make_room.ensures.wider)
          (omega (arith, c.len-number.ensures, c.self.inside.records.ok.0))
          (omega (arith, c.in_ok-make_room.ensures.nodes))
          (rw c.in_ok-literals.ensures c.home_for-home.ensures)
          (omega (arith, home_inside _ _ _ c.in-Some.ensures c.home_for-home.ensures, c.in_ok-make_room.ensures.heads))
          c.put.ensures,
      empty_more c.self.inside.emptied c.self.inside.records.items _ c.self.invariant.2,
    )

pub returns-clause-number : goal.returns-clause-number
returns-clause-number c = grind (arith, common_steps)

pub returns-clause-ok : goal.returns-clause-ok
returns-clause-ok c = grind (arith, common_steps)

pub returns-in_err-literals-clause-number : goal.returns-in_err-literals-clause-number
returns-in_err-literals-clause-number c = grind (arith, common_steps)

pub returns-in_err-literals-clause-ok : goal.returns-in_err-literals-clause-ok
returns-in_err-literals-clause-ok c = grind (arith, common_steps)

pub returns-in_err-make_room-clause-ok : goal.returns-in_err-make_room-clause-ok
returns-in_err-make_room-clause-ok c = grind (arith, common_steps)

pub returns-in_err-push-clause-number : goal.returns-in_err-push-clause-number
returns-in_err-push-clause-number c =
    IfOk-from_err c.from_residual-in_err-push.result _ c.from_residual-in_err-push.ensures.0

pub returns-in_err-push-clause-ok : goal.returns-in_err-push-clause-ok
returns-in_err-push-clause-ok c =
    IfOk-from_err c.from_residual-in_err-push.result _ c.from_residual-in_err-push.ensures.0

pub returns-in_err-scope-clause-number : goal.returns-in_err-scope-clause-number
returns-in_err-scope-clause-number c = grind (arith, common_steps)

pub returns-in_err-scope-clause-ok : goal.returns-in_err-scope-clause-ok
returns-in_err-scope-clause-ok c =
    IfOk-from_err c.from_residual-in_err-scope.result _ c.from_residual-in_err-scope.ensures.0

pub home_for-home-requires : goal.home_for-home-requires
home_for-home-requires c = c.in-Some.ensures.small

pub invariant_of-self-in_err-literals : goal.invariant_of-self-in_err-literals
invariant_of-self-in_err-literals c = (
  c.self.invariant.0,
  found_wider _ _ _ _ _ c.self.invariant.1 c.make_room.ensures.wider,
  c.self.invariant.2,
)

pub put-requires-clause-number : goal.put-requires-clause-number
put-requires-clause-number c = omega (arith, c.in_ok-make_room.ensures.nodes)

pub returns-in_err-make_room-clause-err : goal.returns-in_err-make_room-clause-err
returns-in_err-make_room-clause-err c =
    MatchResult-from_err c.from_residual.result _ _ c.from_residual.ensures.0 (λ _. c.self.view_is)

pub returns-in_err-literals-clause-err : goal.returns-in_err-literals-clause-err
returns-in_err-literals-clause-err c =
    MatchResult-from_err c.from_residual-in_err-literals.result _ _ c.from_residual-in_err-literals.ensures.0
    (λ _. c.self.view_is)

pub returns-in_err-scope-clause-err : goal.returns-in_err-scope-clause-err
returns-in_err-scope-clause-err c =
    MatchResult-from_err c.from_residual-in_err-scope.result _ _ c.from_residual-in_err-scope.ensures.0
    (λ _. c.self.view_is)

pub returns-in_err-push-clause-err : goal.returns-in_err-push-clause-err
returns-in_err-push-clause-err c =
    MatchResult-from_err c.from_residual-in_err-push.result _ _ c.from_residual-in_err-push.ensures.0
    (λ _. ap kept_of c.in_err-push.ensures.items ∙ c.self.view_is)
