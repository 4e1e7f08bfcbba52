use Rattle.std.proofs.Common.{◌≡◌, drop}
use Rattle.std.specs.List.{list_any}
use Rattle.sb_rulebook.specs.Gates.{is_set_of}
use Rattle.sb_rules.proofs.gates.is_one_of.Given as goal

abbrev pub invariant-loop-few : goal.invariant-loop-few
invariant-loop-few l = list_any (is_set_of l.clause) (drop l.few-index l.said) ≡ list_any (is_set_of l.clause) l.said
