use Rattle.std.proofs.Common.{◌≡◌, suc, ◌-◌, sym, ◌∙◌, arith}
use Rattle.sb_regex.specs.Nodes.{node_parts}
use Rattle.sb_trace.specs.Waiting.{stack_of}
use Rattle.sb_trace.proofs.Stacks.{parts_pushed}
use Rattle.sb_trace.proofs.frame.wait_for_parts.Goals as goal

pub loop-place-preserved : goal.loop-place-preserved
loop-place-preserved c =
    let place = c.loop-place.place in
    let e : place ≡ suc (place - 1) = omega arith in
    record {
      within = omega arith;
      pushed = parts_pushed c.args.order.now.keys (node_parts c.args.node.now) (place - 1) place c.unwrap.result
          (stack_of c.loop-place.stack.items) (stack_of c.wait_for_part.new.stack.items)
          (stack_of c.args.stack.now.items) e
          (sym c.part_at.ensures ∙ c.unwrap.ensures) c.loop-place.invariant.pushed c.in_ok-wait_for_part.ensures;
    }
