use Rattle.std.proofs.Common.{◌≡◌, map, take}
use Rattle.sb_rules.proofs.expansions.numbers_of.Given as goal

abbrev pub invariant-loop-class : goal.invariant-loop-class
invariant-loop-class l = l.numbers.items ≡ map (λ k. k.target) (take l.class-index l.classes)
