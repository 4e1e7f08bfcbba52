use Rattle.std.proofs.Common.{◌/◌, length, take, refl, ◌∙◌, arith, sym, ◌<◌}
use Rattle.std.specs.List.Sorted.{IsStrictlySortedBy}
use Rattle.std.proofs.lemmas.List.{take_all, length-take-le}
use Rattle.std.proofs.lemmas.Result.{IfOk-from_err}
use Rattle.sb_lang.specs.Order.{regex_cmp}
use Rattle.sb_regex.specs.Numbered.{regexes_at}
use Rattle.sb_regex.proofs.Merging.{ok_from, halves, rest_whole, rising_sorted, turned_rises, turned_members, turned_numbers, front_numbers, rest_numbers, rest_shorter, front_shorter}
use Rattle.sb_regex.proofs.arena.Arena.+sort.Goals as goal

pub returns-then-run-ids-clause-rising : goal.returns-then-run-ids-clause-rising
returns-then-run-ids-clause-rising t c =
    let rs = c.args.self.now in
    let short = rising_sorted c.order_is_total.ensures rs _ c.in_ok-run.ensures.steps in
    let rises = rw (take_all c.in_ok-run.run' c.args.ids.now (omega arith)) at short in
    ok_from _ (λ v. IsStrictlySortedBy regex_cmp (regexes_at rs v.items)) c.from_slice.result
    (λ v e. rw e rises) c.from_slice.ensures.items

pub merge-requires-clause-left_rises : goal.merge-requires-clause-left_rises
merge-requires-clause-left_rises t c =
    rw (c.sort.ensures.same, c.run.ensures.same)
    (rising_sorted c.order_is_total.ensures c.args.self.now _ c.in_ok-run.ensures.steps)

pub returns-then-half-run-clause-members : goal.returns-then-half-run-clause-members
returns-then-half-run-clause-members t c =
    let rs = c.args.self.now in
    let one = c.run.ensures.same in
    let two = c.sort.ensures.same in
    ok_from _ _ c.merge.result
    (λ whole e. halves rs c.args.ids.now (take c.in_ok-run.run' c.args.ids.now) c.in_ok-right.right.items
    c.in_ok-run.run' (regexes_at rs whole.items) (λ r. refl)
    (rw (one, rest_whole c.in_ok-run.run' c.args.ids.now) at c.in_ok-right.ensures.members) (rw
    (two, one, c.deref.ensures.value) at e)) c.merge.ensures.members

pub merge-requires-then-half-falling-clause-left_rises : goal.merge-requires-then-half-falling-clause-left_rises
merge-requires-then-half-falling-clause-left_rises t c =
    let total = c.order_is_total.ensures in
    let rs = c.args.self.now in
    let falls = rw (c.run.ensures.same) at c.in_ok-falling.ensures.steps in
    rw (
      c.deref-then-half-falling.ensures.value,
      c.in_ok-left.ensures,
      c.sort-then-half-falling.ensures.same,
      c.run-2.ensures.same,
      c.run.ensures.same,
    )
    (rising_sorted total rs _ (turned_rises total rs (take c.in_ok-falling.falling c.args.ids.now) falls))

pub returns-then-half-falling-clause-members : goal.returns-then-half-falling-clause-members
returns-then-half-falling-clause-members t c =
    let rs = c.args.self.now in
    let one = c.run-2.ensures.same ∙ c.run.ensures.same in
    let two = c.sort-then-half-falling.ensures.same in
    ok_from _ _ c.merge-then-half-falling.result
    (λ whole e. halves rs c.args.ids.now c.in_ok-left.left.items c.in_ok-right-2.right.items
    c.in_ok-falling.falling (regexes_at rs whole.items)
    (rw (c.in_ok-left.ensures) (turned_members rs (take c.in_ok-falling.falling c.args.ids.now)))
    (rw (one, rest_whole c.in_ok-falling.falling c.args.ids.now) at c.in_ok-right-2.ensures.members) (rw
    (two, one, c.deref-then-half-falling.ensures.value, c.deref-then-half-falling-2.ensures.value) at e))
    c.merge-then-half-falling.ensures.members

pub returns-clause-members : goal.returns-clause-members
returns-clause-members t c =
    let rs = c.args.self.now in
    let one = c.run-2.ensures.same ∙ c.run.ensures.same in
    let two = c.sort-2.ensures.same in
    let three = c.sort-3.ensures.same in
    ok_from _ _ c.merge-2.result
    (λ whole e. halves rs c.args.ids.now c.in_ok-left-2.left.items c.in_ok-right-3.right.items
    _ (regexes_at rs whole.items) (rw (one) at c.in_ok-left-2.ensures.members)
    (rw (two, one, rest_whole (length c.args.ids.now / 2) c.args.ids.now) at c.in_ok-right-3.ensures.members)
    (rw (three, two, one, c.deref-2.ensures.value, c.deref-3.ensures.value) at e)) c.merge-2.ensures.members

pub returns-in_err-run : goal.returns-in_err-run
returns-in_err-run t c =
    let x = c.from_residual in
    record {
      rising = IfOk-from_err x.result _ x.ensures.0;
      members = IfOk-from_err x.result _ x.ensures.0;
      numbers = IfOk-from_err x.result _ x.ensures.0;
      same = c.run.ensures.same;
    }

pub returns-in_err-right : goal.returns-in_err-right
returns-in_err-right t c =
    let x = c.from_residual-in_err-right in
    record {
      rising = IfOk-from_err x.result _ x.ensures.0;
      members = IfOk-from_err x.result _ x.ensures.0;
      numbers = IfOk-from_err x.result _ x.ensures.0;
      same = c.sort.ensures.same ∙ c.run.ensures.same;
    }

pub returns-in_err-falling : goal.returns-in_err-falling
returns-in_err-falling t c =
    let x = c.from_residual-in_err-falling in
    record {
      rising = IfOk-from_err x.result _ x.ensures.0;
      members = IfOk-from_err x.result _ x.ensures.0;
      numbers = IfOk-from_err x.result _ x.ensures.0;
      same = c.run-2.ensures.same ∙ c.run.ensures.same;
    }

pub returns-in_err-left : goal.returns-in_err-left
returns-in_err-left t c =
    let x = c.from_residual-in_err-left in
    record {
      rising = IfOk-from_err x.result _ x.ensures.0;
      members = IfOk-from_err x.result _ x.ensures.0;
      numbers = IfOk-from_err x.result _ x.ensures.0;
      same = c.run-2.ensures.same ∙ c.run.ensures.same;
    }

pub returns-in_err-right-2 : goal.returns-in_err-right-2
returns-in_err-right-2 t c =
    let x = c.from_residual-in_err-right-2 in
    record {
      rising = IfOk-from_err x.result _ x.ensures.0;
      members = IfOk-from_err x.result _ x.ensures.0;
      numbers = IfOk-from_err x.result _ x.ensures.0;
      same = c.sort-then-half-falling.ensures.same ∙ c.run-2.ensures.same ∙ c.run.ensures.same;
    }

pub returns-in_err-left-2 : goal.returns-in_err-left-2
returns-in_err-left-2 t c =
    let x = c.from_residual-in_err-left-2 in
    record {
      rising = IfOk-from_err x.result _ x.ensures.0;
      members = IfOk-from_err x.result _ x.ensures.0;
      numbers = IfOk-from_err x.result _ x.ensures.0;
      same = c.sort-2.ensures.same ∙ c.run-2.ensures.same ∙ c.run.ensures.same;
    }

pub returns-in_err-right-3 : goal.returns-in_err-right-3
returns-in_err-right-3 t c =
    let x = c.from_residual-in_err-right-3 in
    record {
      rising = IfOk-from_err x.result _ x.ensures.0;
      members = IfOk-from_err x.result _ x.ensures.0;
      numbers = IfOk-from_err x.result _ x.ensures.0;
      same = c.sort-3.ensures.same ∙ c.sort-2.ensures.same ∙ c.run-2.ensures.same ∙ c.run.ensures.same;
    }

pub returns-then-run-ids-clause-same : goal.returns-then-run-ids-clause-same
returns-then-run-ids-clause-same t c = c.run.ensures.same

pub returns-then-half-run-clause-same : goal.returns-then-half-run-clause-same
returns-then-half-run-clause-same t c = c.merge.ensures.same ∙ c.sort.ensures.same ∙ c.run.ensures.same

pub returns-then-half-falling-clause-same : goal.returns-then-half-falling-clause-same
returns-then-half-falling-clause-same t c =
    c.merge-then-half-falling.ensures.same ∙ c.sort-then-half-falling.ensures.same ∙ c.run-2.ensures.same
    ∙ c.run.ensures.same

pub returns-clause-same : goal.returns-clause-same
returns-clause-same t c =
    c.merge-2.ensures.same ∙ c.sort-3.ensures.same ∙ c.sort-2.ensures.same ∙ c.run-2.ensures.same ∙ c.run.ensures.same

pub run-requires-2 : goal.run-requires-2
run-requires-2 t c = rw (c.run.ensures.same) c.requires

pub merge-requires-clause-left : goal.merge-requires-clause-left
merge-requires-clause-left t c =
    rw (c.sort.ensures.same, c.run.ensures.same) (front_numbers c.args.self.now _ c.args.ids.now c.requires)

pub merge-requires-clause-right : goal.merge-requires-clause-right
merge-requires-clause-right t c = rw (c.deref.ensures.value, c.sort.ensures.same) c.in_ok-right.ensures.numbers

pub merge-requires-clause-right_rises : goal.merge-requires-clause-right_rises
merge-requires-clause-right_rises t c = rw (c.deref.ensures.value, c.sort.ensures.same) c.in_ok-right.ensures.rising

pub merge-requires-then-half-falling-clause-left : goal.merge-requires-then-half-falling-clause-left
merge-requires-then-half-falling-clause-left t c =
    rw (
      c.deref-then-half-falling.ensures.value,
      c.in_ok-left.ensures,
      c.sort-then-half-falling.ensures.same,
      c.run-2.ensures.same,
      c.run.ensures.same,
    )
    (turned_numbers c.args.self.now (take c.in_ok-falling.falling c.args.ids.now)
    (front_numbers c.args.self.now _ c.args.ids.now c.requires))

pub merge-requires-then-half-falling-clause-right : goal.merge-requires-then-half-falling-clause-right
merge-requires-then-half-falling-clause-right t c =
    rw (c.deref-then-half-falling-2.ensures.value, c.sort-then-half-falling.ensures.same)
    c.in_ok-right-2.ensures.numbers

pub merge-requires-then-half-falling-clause-right_rises : goal.merge-requires-then-half-falling-clause-right_rises
merge-requires-then-half-falling-clause-right_rises t c =
    rw (c.deref-then-half-falling-2.ensures.value, c.sort-then-half-falling.ensures.same) c.in_ok-right-2.ensures.rising

pub merge-requires-2 : goal.merge-requires-2
merge-requires-2 t c =
    record {
      left = rw (c.deref-2.ensures.value, c.sort-3.ensures.same, c.sort-2.ensures.same) c.in_ok-left-2.ensures.numbers;
      right = rw (c.deref-3.ensures.value, c.sort-3.ensures.same) c.in_ok-right-3.ensures.numbers;
      left_rises = rw (c.deref-2.ensures.value, c.sort-3.ensures.same, c.sort-2.ensures.same)
          c.in_ok-left-2.ensures.rising;
      right_rises = rw (c.deref-3.ensures.value, c.sort-3.ensures.same) c.in_ok-right-3.ensures.rising;
    }

pub returns-then-half-run-clause-rising : goal.returns-then-half-run-clause-rising
returns-then-half-run-clause-rising t c = rw (c.sort.ensures.same, c.run.ensures.same) at c.merge.ensures.rising

pub returns-then-half-run-clause-numbers : goal.returns-then-half-run-clause-numbers
returns-then-half-run-clause-numbers t c = rw (c.sort.ensures.same, c.run.ensures.same) at c.merge.ensures.numbers

pub returns-then-half-falling-clause-rising : goal.returns-then-half-falling-clause-rising
returns-then-half-falling-clause-rising t c =
    rw (c.sort-then-half-falling.ensures.same, c.run-2.ensures.same, c.run.ensures.same)
    at c.merge-then-half-falling.ensures.rising

pub returns-then-half-falling-clause-numbers : goal.returns-then-half-falling-clause-numbers
returns-then-half-falling-clause-numbers t c =
    rw (c.sort-then-half-falling.ensures.same, c.run-2.ensures.same, c.run.ensures.same)
    at c.merge-then-half-falling.ensures.numbers

pub returns-clause-rising : goal.returns-clause-rising
returns-clause-rising t c =
    rw (c.sort-3.ensures.same, c.sort-2.ensures.same, c.run-2.ensures.same, c.run.ensures.same)
    at c.merge-2.ensures.rising

pub returns-clause-numbers : goal.returns-clause-numbers
returns-clause-numbers t c =
    rw (c.sort-3.ensures.same, c.sort-2.ensures.same, c.run-2.ensures.same, c.run.ensures.same)
    at c.merge-2.ensures.numbers

pub slice_bounds-merge-end : goal.slice_bounds-merge-end
slice_bounds-merge-end t c = sym (length-take-le c.in_ok-run.run' c.args.ids.now c.in_ok-run.ensures.within)

pub slice_bounds-turned-end : goal.slice_bounds-turned-end
slice_bounds-turned-end t c =
    sym (length-take-le c.in_ok-falling.falling c.args.ids.now c.in_ok-falling.ensures.within)

pub sort-requires : goal.sort-requires
sort-requires t c =
    let some : 0 < length c.args.ids.now = omega (arith, c.in_ok-run.ensures.within, c.if-run-ids.false) in (
      omega (arith, c.decreases, rest_shorter c.in_ok-run.run' c.args.ids.now (c.in_ok-run.ensures.some some) c.in_ok-run.ensures.within),
      rw (c.run.ensures.same) (rest_numbers c.args.self.now _ _ c.args.ids.now c.requires),
    )

pub sort-requires-then-half-falling : goal.sort-requires-then-half-falling
sort-requires-then-half-falling t c =
    let some : 0 < length c.args.ids.now = omega (arith, c.in_ok-run.ensures.within, c.if-run-ids.false) in (
      omega (
        arith,
        c.decreases,
        rest_shorter c.in_ok-falling.falling c.args.ids.now (c.in_ok-falling.ensures.some some)
            c.in_ok-falling.ensures.within,
      ),
      rw (c.run-2.ensures.same, c.run.ensures.same) (rest_numbers c.args.self.now _ _ c.args.ids.now c.requires),
    )

pub sort-requires-2 : goal.sort-requires-2
sort-requires-2 t c = (
  omega (
    arith,
    c.decreases,
    front_shorter (length c.args.ids.now / 2) c.args.ids.now
        (omega (arith, c.in_ok-run.ensures.within, c.if-run-ids.false)),
  ),
  rw (c.run-2.ensures.same, c.run.ensures.same) (front_numbers c.args.self.now _ c.args.ids.now c.requires),
)

pub sort-requires-3 : goal.sort-requires-3
sort-requires-3 t c = (
  omega (arith, c.decreases, rest_shorter (length c.args.ids.now / 2) c.args.ids.now (omega (arith, c.if-half-run.false)) (omega arith)),
  rw (c.sort-2.ensures.same, c.run-2.ensures.same, c.run.ensures.same)
      (rest_numbers c.args.self.now _ _ c.args.ids.now c.requires),
)
