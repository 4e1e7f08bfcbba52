use Rattle.std.proofs.Common.{sym}
use Rattle.sb_hints.proofs.Upkeep.{lists_begun}
use Rattle.sb_hints.proofs.lists.begin_before.Goals as goal

pub returns-in-Some-get : goal.returns-in-Some-get
returns-in-Some-get c =
    let updates = rw c.unwrap.ensures at c.insert.ensures.updates in
    rw c.in-Some.is
    (lists_begun c.args.lists.now c.insert.new.self c.args.bare.now c.in-Some.literal c.args.number c.args.before
    c.in-Some-get.list.now (record { last = c.passed.result; count = c.saturating_sub.result })
    (sym c.in-Some-get.ensures.value) c.passed.ensures updates.0)
