use Rattle.std.proofs.Common.{◌≡◌, take}
use Rattle.std.specs.HashSet.{contains}
use Rattle.sb_script.specs.State.{Assumption}
use Rattle.sb_check.specs.Denying.{are_equal, is_given}
use Rattle.sb_check.proofs.denial.set_of.Given as goal

abbrev pub invariant-loop-assumption : goal.invariant-loop-assumption
invariant-loop-assumption l =
    (a : Assumption) → contains are_equal l.given a ≡ is_given (take l.assumption-index l.assumptions) a
