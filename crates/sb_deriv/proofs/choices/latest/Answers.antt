use Rattle.std.proofs.Common.{◌∙◌, ◌-◌, ◌<◌, length, [], get_or, arith}
use Rattle.std.proofs.lemmas.List.{get_or_default}
use Rattle.sb_deriv.proofs.Merging.{latest_is, latest_none}
use Rattle.sb_deriv.proofs.choices.latest.Goals as goal

pub returns-then-i-gt0 : goal.returns-then-i-gt0
returns-then-i-gt0 c =
    let l : c.args.i - 1 < length c.args.choices.now = omega (arith, c.requires, c.if-i-gt0.true) in
    c.ids.ensures
    ∙ latest_is c.args.choices.now c.args.i (c.args.i - 1) (get_or c.args.choices.now (c.args.i - 1) (0, [])) c.requires
    (omega (arith, c.if-i-gt0.true)) (get_or_default c.args.choices.now (c.args.i - 1) _ _ l)

pub returns-else-i-gt0 : goal.returns-else-i-gt0
returns-else-i-gt0 c = latest_none c.args.choices.now c.args.i (omega (arith, c.if-i-gt0.false))
