use Rattle.std.proofs.Common.{length}
use Rattle.sb_deriv.proofs.choices.+refine.Given as goal

abbrev pub decreases-refine : goal.decreases-refine
decreases-refine l = length l.maps.now
