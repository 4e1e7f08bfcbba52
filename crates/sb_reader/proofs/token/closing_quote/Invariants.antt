use Rattle.std.proofs.Common.{◌≡◌, ◌-◌, ◌≤◌, length, drop}
use Rattle.sb_reader.specs.Lexing.{closing_from}
use Rattle.sb_reader.proofs.token.closing_quote.Given as goal

abbrev pub invariant-loop-i : goal.invariant-loop-i
invariant-loop-i l = record
    { in_range : l.i ≤ length l.inside; same : closing_from l.i (drop l.i l.inside) ≡ closing_from 0 l.inside }

abbrev pub decreases-loop-i : goal.decreases-loop-i
decreases-loop-i l = length l.inside - l.i
