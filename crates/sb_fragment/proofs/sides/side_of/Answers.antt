use Rattle.sb_fragment.proofs.SideFacts.{side_measured}
use Rattle.sb_fragment.proofs.sides.side_of.Goals as goal

pub returns : goal.returns
returns c =
    side_measured c.args.table.now c.args.measures.now c.args.id c.number.result _ c.is_short_word-is_short.result
    c.in_ok-single.single c.requires.right c.number.ensures c.requires.number c.is_short_word-is_short.ensures
    c.in_ok-single.ensures
