use Rattle.std.proofs.Common.{◌≡◌, ◌+◌, ◌<◌, ℕ, true, List, Bool, length, get_or, set, ◌∙◌, ap, sym, arith}
use Rattle.std.specs.Vec.{with_items}
use Rattle.std.proofs.lemmas.List.{with_items_is}
use Rattle.sb_activity.specs.Places.{places_swapped}
use Rattle.sb_activity.specs.Waiting.{are_first}
use Rattle.sb_activity.proofs.Swaps.{first_already, inserted, lent, length_swapped}
use Rattle.sb_activity.proofs.order.Order.insert.Goals as goal

pub returns-then-place-last : goal.returns-then-place-last
returns-then-place-last c =
    let there : c.args.atom < length c.self.inside.places.items =
    omega (arith, c.in-Some.ensures.0, ap length c.deref.ensures.value) in
    rw (← c.self.view_is) (sym (first_already c.self.inside.places.items c.args.atom c.self.inside.waiting there
    (rw (← c.deref.ensures.value, ← c.in-Some.ensures.1) c.if-place-last.true)))

pub returns : goal.returns
returns c =
    let heap = c.self.inside.heap in
    let places = c.self.inside.places in
    let swapped : c.swap.new.places ≡ places_swapped heap.items places.items c.in-Some.place c.self.inside.waiting =
    rw (c.deref_mut.ensures.value, c.deref_mut-2.ensures.value) at c.swap.ensures.places in
    let middle : length c.swap.new.places ≡ places.len =
    ap length swapped ∙ length_swapped heap.items places.items c.in-Some.place c.self.inside.waiting ∙ sym places.ok.0 in
    let was : c.deref_mut-4.result.now ≡ c.swap.new.places =
    c.deref_mut-4.ensures.value ∙ lent c.swap.new.places places.items places.len middle in
    let whole : are_first (c.self.inside.waiting + 1) c.sift_up.new.places
    ≡ set (are_first c.self.inside.waiting places.items) c.args.atom true =
    inserted heap.items places.items c.swap.new.places c.sift_up.new.places c.args.atom c.in-Some.place
    c.self.inside.waiting c.self.invariant.inverse (omega (arith, c.in-Some.ensures.0, ap length c.deref.ensures.value))
    (c.in-Some.ensures.1 ∙ ap (λ (xs : List ℕ). get_or xs c.args.atom 0) c.deref.ensures.value) c.if-place-last.false swapped
    (c.sift_up.ensures.first (c.self.inside.waiting + 1) (omega arith) ∙ ap (are_first (c.self.inside.waiting + 1)) was) in
    ap (are_first (c.self.inside.waiting + 1))
    (with_items_is (with_items places c.swap.new.places) c.sift_up.new.places
    (omega (
      arith,
      c.sift_up.ensures.inverse.even,
      c.sift_up.ensures.length,
      c.deref_mut-3.ensures.len,
      c.self.invariant.inverse.even,
      heap.ok.0,
      places.ok.0,
    )))
    ∙ whole ∙ ap (λ (xs : List Bool). set xs c.args.atom true) c.self.view_is
