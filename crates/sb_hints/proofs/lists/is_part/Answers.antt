use Rattle.std.proofs.Common.{ap, sym, ◌∙◌}
use Rattle.std.specs.List.{list_all}
use Rattle.std.specs.HashSet.{contains}
use Rattle.sb_hints.specs.Listing.{are_equal}
use Rattle.sb_hints.proofs.Storage.{within_at, row_passes, row_fails}
use Rattle.sb_hints.proofs.lists.is_part.Goals as goal

pub literals_of-requires : goal.literals_of-requires
literals_of-requires c = within_at _ c.args.rows.now c.args.number _ c.requires.within c.requires.inside
    c.if-row.true

pub returns-then-row : goal.returns-then-row
returns-then-row c =
    let has = contains are_equal c.args.all.now in
    c.has_all.ensures ∙ ap (list_all has) c.literals_of.ensures
    ∙ sym (row_passes has c.args.literals.now c.args.rows.now c.args.number _ c.requires.inside c.if-row.true)

pub returns-else-row : goal.returns-else-row
returns-else-row c =
    c.if-row.false
    ∙ sym (row_fails (contains are_equal c.args.all.now) c.args.literals.now c.args.rows.now c.args.number _
    c.requires.inside c.if-row.false)
