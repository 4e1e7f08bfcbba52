use Rattle.sb_sound.proofs.BestBounds.{denied_exact, lower_greatest, upper_least}
use Rattle.sb_sound.proofs.linear.bounds_are_exact.Goals as goal

pub returns : goal.returns
returns c = record { denied = denied_exact; lower = lower_greatest; upper = upper_least }
