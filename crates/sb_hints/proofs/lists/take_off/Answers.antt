use Rattle.std.proofs.Common.{map, sym, ap, ◌∙◌}
use Rattle.sb_hints.specs.Storing.{before_of}
use Rattle.sb_hints.specs.Listing.{last_at}
use Rattle.sb_hints.proofs.Storage.{before_at, same-both}
use Rattle.sb_hints.proofs.Searching.{listed_begun}
use Rattle.sb_hints.proofs.lists.take_off.Goals as goal

pub returns-clause-same : goal.returns-clause-same
returns-clause-same c =
    same-both c.args.rows.now.items c.pass_over.new.rows.items c.set_behind.new.rows.items c.pass_over.ensures.same
    c.set_behind.ensures.same

pub returns-clause-listed : goal.returns-clause-listed
returns-clause-listed c = λ kept gone h.
    let rows = c.args.rows.now.items in
    let row = c.index-row.result.now in
    let leads = before_at rows c.args.number row c.requires ∙ ap before_of (sym c.index-row.ensures) in
    rw c.set_behind.ensures.before
    (c.pass_over.ensures.listed kept gone leads (last_at c.begin_before.new.lists c.begin_before.new.bare)
    (listed_begun kept (map before_of rows) (last_at c.args.lists.now c.args.bare.now) c.args.number row.before h gone
    leads row.place (last_at c.begin_before.new.lists c.begin_before.new.bare) c.begin_before.ensures))
