use Rattle.std.proofs.Common.{◌≡◌, ◌^◌, ◌<◌, drop}
use Rattle.sb_word.specs.Literals.{hex_number_from}
use Rattle.sb_proof.specs.Spelled.{small}
use Rattle.sb_proof.proofs.numbers.hexadecimal_spelled.Given as goal

abbrev pub invariant-loop-byte : goal.invariant-loop-byte
invariant-loop-byte l =
    record {
      same : small (hex_number_from 0 l.fn.field) ≡ small (hex_number_from l.n (drop l.byte-index l.field));
      fits : l.n < 2 ^ 64;
    }
