use Rattle.std.proofs.Common.{◌≡◌, drop}
use Rattle.std.specs.List.{list_all}
use Rattle.sb_rules.specs.Refuting.{member_at, is_of}
use Rattle.sb_rules.proofs.members.are_of.Given as goal

abbrev pub invariant-loop-literal : goal.invariant-loop-literal
invariant-loop-literal l = list_all (λ m. is_of l.serial.0 (member_at l.atoms m)) (drop l.literal-index l.literals)
    ≡ list_all (λ m. is_of l.serial.0 (member_at l.atoms m)) l.literals
