use Rattle.std.proofs.Common.{refl}
use Rattle.sb_plain.proofs.points.put_all.Goals as goal

pub loop-point-init : goal.loop-point-init
loop-point-init c = (c.requires.points, λ t h. h, λ t h. refl)
