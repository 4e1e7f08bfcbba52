use Rattle.std.proofs.Common.{◌≡◌, option_map}
use Rattle.sb_reader.specs.Forms.{shapes_in}
use Rattle.sb_script.specs.Reading.{are_annotations}
use Rattle.sb_sorts.specs.Annotations.{goes_on}
use Rattle.sb_sorts.proofs.Sizes.{size_of_all}
use Rattle.sb_sorts.proofs.annotation.are_annotations.Given as goal

abbrev pub invariant-loop-form : goal.invariant-loop-form
invariant-loop-form l =
    are_annotations (shapes_in l.forms) ≡ goes_on (option_map (λ key. key.now) l.last) (shapes_in l.left)

abbrev pub decreases-loop-form : goal.decreases-loop-form
decreases-loop-form l = size_of_all (shapes_in l.left)
