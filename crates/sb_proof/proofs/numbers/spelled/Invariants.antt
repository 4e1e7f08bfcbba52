use Rattle.std.proofs.Common.{◌≡◌, ◌^◌, ◌<◌, drop}
use Rattle.sb_rulebook.specs.Reading.{decimal_from}
use Rattle.sb_proof.specs.Spelled.{small}
use Rattle.sb_proof.proofs.numbers.spelled.Given as goal

abbrev pub invariant-loop-byte : goal.invariant-loop-byte
invariant-loop-byte l =
    record {
      same : small (decimal_from 0 l.fn.field) ≡ small (decimal_from l.n (drop l.byte-index l.field));
      fits : l.n < 2 ^ 64;
    }
