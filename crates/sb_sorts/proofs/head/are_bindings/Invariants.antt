use Rattle.std.proofs.Common.{◌≡◌}
use Rattle.sb_reader.specs.Forms.{shapes_in}
use Rattle.sb_script.specs.Reading.{are_bindings}
use Rattle.sb_sorts.proofs.Sizes.{size_of_all}
use Rattle.sb_sorts.proofs.head.are_bindings.Given as goal

abbrev pub invariant-loop-form : goal.invariant-loop-form
invariant-loop-form l = are_bindings (shapes_in l.forms) ≡ are_bindings (shapes_in l.left)

abbrev pub decreases-loop-form : goal.decreases-loop-form
decreases-loop-form l = size_of_all (shapes_in l.left)
