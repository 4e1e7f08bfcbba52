use Rattle.sb_regex.proofs.Merging.{alike_more}
use Rattle.sb_regex.proofs.arena.Arena.trace.Goals.{then-is_milestone+in_default+in_ok-push, else-is_milestone}
use Rattle.sb_regex.proofs.arena.Arena.trace.Goals as goal

pub returns-in-Decided-clause-path : goal.returns-in-Decided-clause-path
returns-in-Decided-clause-path c =
    elim c.if-is_milestone.branch [
      | then-is_milestone+in_default+in_ok-push w ↦
          rw (w.path-is)
          (alike_more c.args.self.now c.args.a c.args.b c.loop-left.path.items w.push.new.self.items c.loop-left.left
          c.loop-left.right c.loop-left.invariant.0 c.loop-left.invariant.1 c.loop-left.invariant.2
          w.in_ok-push.ensures.items c.loop-left.invariant.3)
      | else-is_milestone w ↦ rw (w.path-is) c.loop-left.invariant.3
    ]
