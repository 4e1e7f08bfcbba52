use Rattle.std.proofs.Common.{◌≡◌, ◌≤◌, ℕ, List, Some, length, take, map, nat_eq, ◌||◌}
use Rattle.std.specs.List.{list_any}
use Rattle.sb_graph.specs.Findings.{is_marked}
use Rattle.sb_trace.specs.Tracking.{number_in}
use Rattle.sb_trace.proofs.trace.mark.Given as goal

abbrev pub invariant-loop-regex : goal.invariant-loop-regex
invariant-loop-regex l = record {
  marks : (numbers : List ℕ) → map (number_in l.order.keys) l.regexes ≡ map Some numbers → (n : ℕ)
      → is_marked l.dead.items n ≡ (list_any (nat_eq n) (take l.regex-index numbers) || is_marked l.fn.dead.items n);
  long : length l.dead.items ≡ length l.fn.dead.items;
  stay : (n : ℕ) → length l.order.keys ≤ n → is_marked l.dead.items n ≡ is_marked l.fn.dead.items n;
}
