use Rattle.std.proofs.Common.{◌≡◌, ◌≢◌, ◌<◌, false, List, Bool, length, get_or, ◌∙◌, ap, sym, arith}
use Rattle.std.proofs.lemmas.List.{get_or_read}
use Rattle.sb_activity.proofs.Swaps.{none_first, first_waits}
use Rattle.sb_activity.proofs.order.Order.first.Goals as goal

pub returns-then-self-eq0 : goal.returns-then-self-eq0
returns-then-self-eq0 c = rw (← c.self.view_is, c.if-self-eq0.true) (none_first c.self.inside.places.items)

pub returns : goal.returns
returns c =
    let heap = c.self.inside.heap in
    let places = c.self.inside.places in
    let waiting = c.self.inside.waiting in
    let some : waiting ≢ 0 = c.if-self-eq0.false in
    let top : 0 < length heap.items = omega (arith, some, c.self.invariant.within) in
    let atom : c.from.result ≡ get_or heap.items 0 0 =
    c.from.ensures ∙ get_or_read heap.items 0 c.index.result.now top c.index.ensures 0 in
    ap (λ (xs : List Bool). get_or xs c.from.result false) (sym c.self.view_is)
    ∙ first_waits heap.items places.items c.from.result waiting c.self.invariant.inverse c.self.invariant.within some atom
