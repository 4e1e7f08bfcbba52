use Rattle.std.proofs.Common.{refl, sym}
use Rattle.sb_hints.proofs.Scoping.{none_left}
use Rattle.sb_hints.proofs.levels.pop_left.Goals as goal

pub returns-then-not-is_left : goal.returns-then-not-is_left
returns-then-not-is_left c = (
  none_left c.args.down_to c.in-Some.highest.now _ (c.in-Some.ensures.greatest c.requires)
      (sym c.if-not-is_left.ensures),
  refl,
)
