use Rattle.std.proofs.Common.{◌≡◌, nat_lt, true}
use Rattle.std.specs.List.{list_all}
use Rattle.sb_table_tests.proofs.searches.first_atoms.Given as goal

abbrev pub invariant-loop-atom : goal.invariant-loop-atom
invariant-loop-atom l = list_all (λ n. nat_lt n l.fn.count) l.atoms.keys ≡ true
