use Rattle.std.proofs.Common.{ap, arith}
use Rattle.sb_trail.specs.Assignments.{Assignments}
use Rattle.sb_clauses.proofs.Marked.{front_then, below_front}
use Rattle.sb_clauses.proofs.Resting.{stored_back}
use Rattle.std.proofs.lemmas.Grind.{common_steps}
use Rattle.sb_clauses.proofs.engine.Engine.backtrack.Goals as goal

pub invariant_of-self : goal.invariant_of-self
invariant_of-self c = (
  stored_back _ _ _ _ _ _ _ c.args.level _ _ _ _ _ (ap (λ (t : Assignments). t.literals) c.backtrack.ensures)
      (front_then _ _ _ c.backtrack_marks.ensures.front c.backtrack_marks-2.ensures.front)
      (below_front _ _ _ c.backtrack_marks-2.ensures.front c.backtrack_marks.ensures.below)
      (rw c.current_level.ensures at c.backtrack_marks-2.ensures.below)
      (rw (c.deref.ensures.value, c.literals.ensures.value) at c.end_of_marks-self-inside.ensures) c.self.invariant.0,
  c.self.invariant.1,
)

pub returns-then-end_of-entries : goal.returns-then-end_of-entries
returns-then-end_of-entries c = grind (arith, common_steps)

pub backtrack_marks-requires : goal.backtrack_marks-requires
backtrack_marks-requires c = c.self.invariant.0.ready.ascending

pub backtrack_marks-requires-2 : goal.backtrack_marks-requires-2
backtrack_marks-requires-2 c = c.backtrack_marks.ensures.ascending

pub end_of_marks-self-inside-requires : goal.end_of_marks-self-inside-requires
end_of_marks-self-inside-requires c = rw c.literals.ensures.value c.literals.ensures.trail.levelled
