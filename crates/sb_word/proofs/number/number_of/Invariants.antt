use Rattle.std.proofs.Common.{◌≡◌, ◌<◌, ◌^◌, drop}
use Rattle.sb_word.specs.Numerals.{number_of, number_from}
use Rattle.sb_word.proofs.number.number_of.Given as goal

abbrev pub invariant-loop-digit : goal.invariant-loop-digit
invariant-loop-digit l =
    (number_of l.digits ≡ number_from l.number (drop l.digit-index l.digits)) × (l.number < 2 ^ 64)
