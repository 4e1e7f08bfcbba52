use Rattle.std.proofs.Common.{arith}
use Rattle.sb_reader.specs.Forms.{shape_of}
use Rattle.sb_sorts.proofs.Sizes.{size_of_more, some_size}
use Rattle.sb_sorts.proofs.annotation.are_annotations.Goals as goal

pub loop-form-smaller : goal.loop-form-smaller
loop-form-smaller c =
    omega (arith, size_of_more _ _ _ c.in-Some.ensures, some_size (shape_of c.in-Some.form))
