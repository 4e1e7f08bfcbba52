use Rattle.std.proofs.Common.{◌<◌, true, false, length, sym, ◌∙◌, arith}
use Rattle.sb_hints.specs.Listing.{last_at}
use Rattle.sb_hints.proofs.Upkeep.{kept_less, stored_less, row_without}
use Rattle.sb_hints.proofs.levels.drop_row.Goals as goal

pub returns-then-goes-clause-kept : goal.returns-then-goes-clause-kept
returns-then-goes-clause-kept c = λ ls.
    let rows = c.args.rows.now.items in
    let inside : c.args.number < length c.args.rows.now.items =
    omega (arith, c.if-number-len.false, c.len.ensures, c.args.rows.now.ok.0, c.args.rows.now.ok.1) in
    kept_less ls rows c.empty.new.rows.items c.take_off.new.rows.items c.args.number c.empty.ensures
    c.take_off.ensures.same
    ∙ sym (row_without c.args.down_to ls rows c.args.number c.index.result.now inside c.index.ensures true
    (c.if-goes.ensures ls))

pub returns-then-goes-clause-stored : goal.returns-then-goes-clause-stored
returns-then-goes-clause-stored c = λ ls h.
    stored_less ls c.args.rows.now.items c.empty.new.rows.items c.take_off.new.rows.items c.args.number c.empty.ensures
    c.take_off.ensures.same (last_at c.args.lists.now c.args.bare.now)
    (last_at c.take_off.new.lists c.take_off.new.bare) h c.take_off.ensures.listed

pub returns-else-goes-clause-kept : goal.returns-else-goes-clause-kept
returns-else-goes-clause-kept c = λ ls.
    let inside : c.args.number < length c.args.rows.now.items =
    omega (arith, c.if-number-len.false, c.len.ensures, c.args.rows.now.ok.0, c.args.rows.now.ok.1) in
    sym (row_without c.args.down_to ls c.args.rows.now.items c.args.number c.index.result.now inside c.index.ensures
    false (c.if-goes.ensures ls))
