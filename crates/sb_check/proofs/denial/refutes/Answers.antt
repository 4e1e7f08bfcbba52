use Rattle.std.proofs.Common.{◌∙◌}
use Rattle.std.specs.HashSet.{contains}
use Rattle.sb_check.specs.Denying.{are_equal, is_given}
use Rattle.sb_check.proofs.Denials.{denied_same}
use Rattle.sb_check.proofs.denial.refutes.Goals as goal

pub returns : goal.returns
returns c =
    c.deny_all.ensures
    ∙ denied_same (contains are_equal c.in_ok-given.given) (is_given c.args.assumptions.now) c.in_ok-given.ensures
    c.args.atoms.now c.args.literals.now
