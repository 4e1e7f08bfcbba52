use Rattle.std.proofs.Common.{◌≡◌, ◌≤◌, ◌++◌, filter, map, drop, length}
use Rattle.sb_regex.specs.Nodes.{node_parts}
use Rattle.sb_trace.specs.Defining.{is_lacking}
use Rattle.sb_trace.specs.Waiting.{waits, stack_of}
use Rattle.sb_trace.proofs.frame.wait_for_parts.Given as goal

abbrev pub invariant-loop-place : goal.invariant-loop-place
invariant-loop-place l = record {
  within : l.place ≤ length (node_parts l.node);
  pushed : stack_of l.stack.items
      ≡ map waits (filter (is_lacking l.order.keys) (drop l.place (node_parts l.node))) ++ stack_of l.fn.stack.items;
}

abbrev pub decreases-loop-place : goal.decreases-loop-place
decreases-loop-place l = l.place
