use Rattle.std.proofs.Common.{◌≡◌, false, drop}
use Rattle.sb_reader.specs.Lexing.{skip_from}
use Rattle.sb_reader.proofs.token.skip_gap.Given as goal

abbrev pub invariant-loop-i : goal.invariant-loop-i
invariant-loop-i l = skip_from l.in_comment (drop l.i l.bytes) ≡ skip_from false l.bytes
