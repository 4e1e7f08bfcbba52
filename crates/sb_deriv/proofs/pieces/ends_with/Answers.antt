use Rattle.std.proofs.Common.{◌-◌, length, arith, ◌∙◌}
use Rattle.sb_deriv.proofs.PieceFacts.{ends_with_none, ends_with_at}
use Rattle.sb_deriv.proofs.pieces.ends_with.Goals as goal

pub returns-in-empty : goal.returns-in-empty
returns-in-empty c = ends_with_none c.args.target c.args.pieces.now (omega arith)

pub returns-in-len1-up : goal.returns-in-len1-up
returns-in-len1-up c =
    c.eq.ensures ∙ ends_with_at c.args.target c.args.pieces.now (length c.args.pieces.now - 1) c.last-item.result
    (omega (arith, c.in-len1-up.len_at_least)) c.last-item.is
