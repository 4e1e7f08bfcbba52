use Rattle.std.proofs.Common.{◌≡◌, ◌≤◌, drop}
use Rattle.sb_script.specs.Texts.{number_of, number_from}
use Rattle.sb_sorts.proofs.numeral.number_up_to.Given as goal

abbrev pub invariant-loop-digit : goal.invariant-loop-digit
invariant-loop-digit l =
    (number_of l.digits ≡ number_from l.number (drop l.digit-index l.digits)) × (l.number ≤ l.limit)
