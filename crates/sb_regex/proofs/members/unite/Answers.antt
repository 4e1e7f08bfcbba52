use Rattle.std.proofs.Common.{length, ap, ◌∙◌, arith, length-drop}
use Rattle.sb_regex.proofs.Gathering.{united_none}
use Rattle.sb_regex.proofs.members.unite.Goals as goal

pub returns : goal.returns
returns c =
    united_none c.empty.result c.loop-left.classes.items c.args.classes.items c.empty.ensures
    (omega (
      arith,
      ap length (c.in_default.ensures.items ∙ c.in_default.ensures.rest),
      length-drop 1 c.loop-left.classes.items,
    ))
    c.loop-left.invariant
