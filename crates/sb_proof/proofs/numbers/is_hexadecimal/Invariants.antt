use Rattle.std.proofs.Common.{◌≡◌, ◌^◌, ◌<◌, length}
use Rattle.sb_rulebook.specs.Lines.{hexadecimal}
use Rattle.sb_rulebook.specs.Reading.{is_text}
use Rattle.sb_proof.proofs.numbers.is_hexadecimal.Given as goal

abbrev pub invariant-loop-last : goal.invariant-loop-last
invariant-loop-last l =
    record {
      same : is_text (hexadecimal l.fn.n) l.fn.field ≡ is_text (hexadecimal l.left) l.unread;
      fits : l.left < 2 ^ 64;
    }

abbrev pub decreases-loop-last : goal.decreases-loop-last
decreases-loop-last l = length l.unread
