use Rattle.sb_fragment.proofs.SideFacts.{no_single, once_single}
use Rattle.sb_fragment.proofs.sides.is_single.Goals as goal

pub returns-then-not-has_pieces : goal.returns-then-not-has_pieces
returns-then-not-has_pieces c =
    no_single c.args.table.now c.args.measures.now c.args.id c.number.result _ c.requires.right c.number.ensures
    c.requires.number c.if-not-has_pieces.true

pub returns : goal.returns
returns c =
    once_single c.args.table.now c.args.measures.now c.args.id c.number.result _ c.in_ok-once.once c.requires.right
    c.number.ensures c.requires.number c.if-not-has_pieces.false c.in_ok-once.ensures
