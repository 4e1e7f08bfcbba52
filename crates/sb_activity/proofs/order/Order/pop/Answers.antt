use Rattle.std.proofs.Common.{◌≡◌, ◌≢◌, ◌-◌, ◌<◌, false, List, Bool, length, get_or, set, ◌∙◌, refl, ap, sym, arith}
use Rattle.std.specs.Vec.{with_items}
use Rattle.std.proofs.lemmas.List.{with_items_is, get_or_read}
use Rattle.sb_activity.specs.Places.{places_swapped}
use Rattle.sb_activity.specs.Waiting.{are_first}
use Rattle.sb_activity.proofs.Swaps.{none_first, popped, lent, length_swapped}
use Rattle.sb_activity.proofs.order.Order.pop.Goals as goal

pub returns-then-self-eq0 : goal.returns-then-self-eq0
returns-then-self-eq0 c = (
  rw (← c.self.view_is, c.if-self-eq0.true) (none_first c.self.inside.places.items),
  refl,
)

pub returns : goal.returns
returns c =
    let heap = c.self.inside.heap in
    let places = c.self.inside.places in
    let waiting = c.self.inside.waiting in
    let some : waiting ≢ 0 = c.if-self-eq0.false in
    let top : 0 < length heap.items = omega (arith, some, c.self.invariant.within) in
    let atom : c.from.result ≡ get_or heap.items 0 0 =
    c.from.ensures ∙ get_or_read heap.items 0 c.index-atom.result.now top c.index-atom.ensures 0 in
    let swapped : c.swap.new.places ≡ places_swapped heap.items places.items 0 (waiting - 1) =
    rw (c.deref_mut.ensures.value, c.deref_mut-2.ensures.value) at c.swap.ensures.places in
    let middle : length c.swap.new.places ≡ places.len =
    ap length swapped ∙ length_swapped heap.items places.items 0 (waiting - 1) ∙ sym places.ok.0 in
    let was : c.deref_mut-4.result.now ≡ c.swap.new.places =
    c.deref_mut-4.ensures.value ∙ lent c.swap.new.places places.items places.len middle in
    let whole = popped heap.items places.items c.swap.new.places c.sift_down.new.places c.from.result waiting
    c.self.invariant.inverse c.self.invariant.within some atom swapped
    (c.sift_down.ensures.first ∙ ap (are_first (waiting - 1)) was) in (
      ap (λ (xs : List Bool). get_or xs c.from.result false) (sym c.self.view_is) ∙ whole.0,
      ap (are_first (waiting - 1)) (with_items_is (with_items places c.swap.new.places) c.sift_down.new.places
          (omega (
            arith,
            c.sift_down.ensures.inverse.even,
            c.sift_down.ensures.length,
            c.deref_mut-3.ensures.len,
            c.self.invariant.inverse.even,
            heap.ok.0,
            places.ok.0,
          )))
          ∙ whole.1 ∙ ap (λ (xs : List Bool). set xs c.from.result false) c.self.view_is,
    )
