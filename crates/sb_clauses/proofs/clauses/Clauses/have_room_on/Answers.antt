use Rattle.std.proofs.Common.{sym, ◌∙◌, arith}
use Rattle.sb_clauses.proofs.Growing.{room_more, room_missing}
use Rattle.std.proofs.lemmas.Grind.{common_steps}
use Rattle.sb_clauses.proofs.clauses.Clauses.have_room_on.Goals as goal

pub returns-then-not-is_reserved : goal.returns-then-not-is_reserved
returns-then-not-is_reserved c =
    rw (← c.reserved-reserved.ensures)
    (sym (room_missing c.reserved-reserved.result c.args.self.now c.self.inside.records.items
    c.deref-place-items.result.now c.loop-place.place-index c.place-item.result c.deref-place-items.ensures.value
    c.self.view_is c.loop-place-test.true c.place-item.is (sym c.is_reserved.ensures ∙ c.if-not-is_reserved.true)))

pub loop-place-preserved : goal.loop-place-preserved
loop-place-preserved c =
    room_more c.reserved-reserved.result c.args.self.now c.self.inside.records.items c.deref-place-items.result.now
    c.loop-place.place-index c.place-item.result c.deref-place-items.ensures.value c.self.view_is
    c.loop-place-test.true c.place-item.is c.loop-place.invariant
    (sym c.is_reserved.ensures ∙ c.if-not-is_reserved.false)

pub returns : goal.returns
returns c = grind (arith, common_steps)
