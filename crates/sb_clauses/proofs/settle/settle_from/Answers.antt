use Rattle.std.proofs.Common.{sym, ◌∙◌, take, arith}
use Rattle.std.proofs.lemmas.List.{length-map, take_all}
use Rattle.sb_trail.specs.declared.assigned.Assigned.{Assigned}
use Rattle.sb_trail.specs.Assignments.{held}
use Rattle.sb_clauses.proofs.Settling.{settles_then, front_grown, front_more, none_given, settles_none, some_answer}
use Rattle.std.proofs.lemmas.Grind.{common_steps}
use Rattle.sb_clauses.proofs.settle.settle_from.Goals as goal

pub returns-then-is_some-clause-settles : goal.returns-then-is_some-clause-settles
returns-then-is_some-clause-settles c =
    settles_then _ _ _ _ _ _ _ _ _ _ c.loop-literal.invariant.settles c.walk_both-conflict.ensures.settles

pub loop-literal-preserved : goal.loop-literal-preserved
loop-literal-preserved c = record {
  watched = c.walk_both-conflict.ensures.watched;
  spared = c.walk_both-conflict.ensures.spared;
  settles = settles_then _ _ _ _ _ _ _ _ _ _ c.loop-literal.invariant.settles c.walk_both-conflict.ensures.settles;
  fine =
      rw (← front_more _ c.loop-literal.trail c.walk_both-conflict.new.trail c.loop-literal.head c.in-Some.literal
      c.walk_both-conflict.ensures.settles.grows c.in-Some.ensures.literal)
      (none_given c.walk_both-conflict.result _ (sym c.is_some.ensures ∙ c.if-is_some.false)
      c.walk_both-conflict.ensures.fine (take c.loop-literal.head (held c.loop-literal.trail.literals))
      (front_grown c.loop-literal.head (held c.loop-literal.trail.literals)) c.loop-literal.invariant.fine);
}

pub returns-clause-answer : goal.returns-clause-answer
returns-clause-answer c =
    rw (take_all c.loop-literal.head (held c.loop-literal.trail.literals)
    (omega (
      arith,
      c.in_default.ensures.literal,
      length-map c.loop-literal.trail.literals (λ (e : Assigned). e.literal),
    ))) at c.loop-literal.invariant.fine

pub walk_both-conflict-requires-clause-is_false : goal.walk_both-conflict-requires-clause-is_false
walk_both-conflict-requires-clause-is_false c = grind (arith, common_steps)

pub loop-literal-init : goal.loop-literal-init
loop-literal-init c = record {
  watched = c.requires.watched;
  spared = c.requires.spared;
  settles = settles_none _ _ _ _;
  fine = c.requires.fine;
}

pub returns-then-is_some-clause-answer : goal.returns-then-is_some-clause-answer
returns-then-is_some-clause-answer c =
    some_answer _ _ _ _ (sym c.is_some.ensures ∙ c.if-is_some.true) c.walk_both-conflict.ensures.conflict

pub returns-then-is_some-clause-watched : goal.returns-then-is_some-clause-watched
returns-then-is_some-clause-watched c = c.walk_both-conflict.ensures.watched

pub returns-then-is_some-clause-spared : goal.returns-then-is_some-clause-spared
returns-then-is_some-clause-spared c = c.walk_both-conflict.ensures.spared
