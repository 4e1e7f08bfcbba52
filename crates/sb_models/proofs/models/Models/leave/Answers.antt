use Rattle.std.proofs.Common.{refl, arith}
use Rattle.sb_models.proofs.Knowledge.{knows_front}
use Rattle.sb_models.proofs.models.Models.leave.Goals as goal

pub returns : goal.returns
returns c old new e longer is k =
    knows_front c.args.self.now _ old new e longer k (omega (arith, c.leave.ensures))
    (omega (arith, is, c.leave.ensures)) (omega (arith, c.min-self.ensures))
    (omega (arith, c.leave.ensures, c.min-self.ensures, k.held_front)) refl refl refl
