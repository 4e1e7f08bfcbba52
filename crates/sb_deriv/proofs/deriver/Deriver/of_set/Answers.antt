use Rattle.sb_deriv.proofs.Derivatives.{set_map}
use Rattle.sb_deriv.proofs.deriver.Deriver.of_set.Goals as goal

pub returns : goal.returns
returns c = record {
  found =
      set_map c.args.arena.now c.args.ranges.now c.args.constants.now.eps c.args.constants.now.none
      c.in_ok-pieces.pieces.items c.new.result c.new.ensures c.requires.constants.eps_is c.requires.constants.none_is
      c.in_ok-pieces.ensures.map c.in_ok-pieces.ensures.value c.in_ok-pieces.ensures.targets;
}
