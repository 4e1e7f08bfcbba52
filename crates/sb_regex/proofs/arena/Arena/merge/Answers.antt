use Rattle.std.proofs.Common.{ℕ, ◌<◌, ◌++◌, length, ◌∙◌, sym, arith, refl}
use Rattle.std.proofs.lemmas.List.Elements.{All-drop, All-take, All-nil}
use Rattle.std.proofs.lemmas.Result.{IfOk-from_err}
use Rattle.sb_regex.specs.Numbered.{regexes_at}
use Rattle.sb_regex.proofs.Spines.{numbers_push}
use Rattle.sb_regex.proofs.CallerLemmas.{number_in}
use Rattle.sb_regex.proofs.Gathering.{numbers-append}
use Rattle.sb_regex.proofs.Merging.{take_left, take_right, skip_left}
use Rattle.sb_regex.proofs.arena.Arena.merge.Goals as goal

pub loop-i-preserved-in-Less : goal.loop-i-preserved-in-Less
loop-i-preserved-in-Less c =
    let rs = c.loop-i.self in
    let whole = regexes_at rs c.args.left.now ++ regexes_at rs c.args.right.now in
    let m = take_left rs c.loop-i.all.items c.push.new.self.items c.args.left.now c.args.right.now c.loop-i.i c.loop-i.j
    c.index-left-i.result c.index-right-j.result whole c.loop-i-test.true c.if-j-right.true c.index-left-i.is
    c.index-right-j.is
    (c.loop-i.invariant.4, c.loop-i.invariant.5, c.loop-i.invariant.6) c.order_is_total.ensures
    c.in_ok-push-in-Less.ensures.items (sym c.in_ok-place.ensures.value ∙ c.in-Less.is) in
    rw (c.place.ensures.same) (
      c.loop-i.invariant.0,
      omega arith,
      c.loop-i.invariant.2,
      numbers_push rs _ _ _ c.loop-i.invariant.3
          (number_in rs c.args.left.now c.loop-i.i _ (rw
          (c.loop-i.invariant.0) c.requires.left) c.loop-i-test.true c.index-left-i.is)
          c.in_ok-push-in-Less.ensures.items,
      m.0,
      m.1,
      m.2,
    )

pub loop-i-preserved-in-Equal : goal.loop-i-preserved-in-Equal
loop-i-preserved-in-Equal c =
    let rs = c.loop-i.self in
    let whole = regexes_at rs c.args.left.now ++ regexes_at rs c.args.right.now in
    let m = skip_left rs c.loop-i.all.items c.loop-i.all.items c.args.left.now c.args.right.now c.loop-i.i c.loop-i.j
    c.index-left-i.result c.index-right-j.result whole c.loop-i-test.true c.if-j-right.true c.index-left-i.is
    c.index-right-j.is
    (c.loop-i.invariant.4, c.loop-i.invariant.5, c.loop-i.invariant.6) c.order_tells_apart.ensures
    (sym c.in_ok-place.ensures.value ∙ c.in-Equal.is) in
    rw (c.place.ensures.same) (
      c.loop-i.invariant.0,
      omega arith,
      c.loop-i.invariant.2,
      c.loop-i.invariant.3,
      m.0,
      m.1,
      m.2,
    )

pub loop-i-preserved : goal.loop-i-preserved
loop-i-preserved c =
    let rs = c.loop-i.self in
    let whole = regexes_at rs c.args.left.now ++ regexes_at rs c.args.right.now in
    let m = take_right rs c.loop-i.all.items c.push-in-Greater.new.self.items c.args.left.now c.args.right.now
    c.loop-i.i c.loop-i.j
    c.index-left-i.result c.index-right-j.result whole c.loop-i-test.true c.if-j-right.true c.index-left-i.is
    c.index-right-j.is
    (c.loop-i.invariant.4, c.loop-i.invariant.5, c.loop-i.invariant.6) c.order_is_total.ensures
    c.in_ok-push-in-Greater.ensures.items (sym c.in_ok-place.ensures.value ∙ c.in-Greater.is) in
    rw (c.place.ensures.same) (
      c.loop-i.invariant.0,
      c.loop-i.invariant.1,
      omega arith,
      numbers_push rs _ _ _ c.loop-i.invariant.3
          (number_in rs c.args.right.now c.loop-i.j _ (rw
          (c.loop-i.invariant.0) c.requires.right) c.if-j-right.true c.index-right-j.is)
          c.in_ok-push-in-Greater.ensures.items,
      m.0,
      m.1,
      m.2,
    )

pub returns-clause-numbers : goal.returns-clause-numbers
returns-clause-numbers c =
    let rs = c.args.self.now in
    let below = λ (i : ℕ). i < length rs in
    numbers-append rs _ _ _ c.in_ok-extend_from_slice-2.ensures.items
    (numbers-append rs _ _ _ c.in_ok-extend_from_slice.ensures.items
    (rw (c.loop-i.invariant.0) at c.loop-i.invariant.3)
    (All-take below _ _ (All-drop below c.loop-i.i c.args.left.now c.requires.left)))
    (All-take below _ _ (All-drop below c.loop-i.j c.args.right.now c.requires.right))

pub returns-in_err-place : goal.returns-in_err-place
returns-in_err-place c =
    let x = c.from_residual in
    record {
      rising = IfOk-from_err x.result _ x.ensures.0;
      members = IfOk-from_err x.result _ x.ensures.0;
      numbers = IfOk-from_err x.result _ x.ensures.0;
      same = c.place.ensures.same ∙ c.loop-i.invariant.0;
    }

pub returns-in_err-push-in-Less : goal.returns-in_err-push-in-Less
returns-in_err-push-in-Less c =
    let x = c.from_residual-in_err-push-in-Less in
    record {
      rising = IfOk-from_err x.result _ x.ensures.0;
      members = IfOk-from_err x.result _ x.ensures.0;
      numbers = IfOk-from_err x.result _ x.ensures.0;
      same = c.place.ensures.same ∙ c.loop-i.invariant.0;
    }

pub returns-in_err-push-in-Greater : goal.returns-in_err-push-in-Greater
returns-in_err-push-in-Greater c =
    let x = c.from_residual-in_err-push-in-Greater in
    record {
      rising = IfOk-from_err x.result _ x.ensures.0;
      members = IfOk-from_err x.result _ x.ensures.0;
      numbers = IfOk-from_err x.result _ x.ensures.0;
      same = c.place.ensures.same ∙ c.loop-i.invariant.0;
    }

pub returns-in_err-extend_from_slice : goal.returns-in_err-extend_from_slice
returns-in_err-extend_from_slice c =
    let x = c.from_residual-in_err-extend_from_slice in
    record {
      rising = IfOk-from_err x.result _ x.ensures.0;
      members = IfOk-from_err x.result _ x.ensures.0;
      numbers = IfOk-from_err x.result _ x.ensures.0;
      same = c.loop-i.invariant.0;
    }

pub returns-in_err-extend_from_slice-2 : goal.returns-in_err-extend_from_slice-2
returns-in_err-extend_from_slice-2 c =
    let x = c.from_residual-in_err-extend_from_slice-2 in
    record {
      rising = IfOk-from_err x.result _ x.ensures.0;
      members = IfOk-from_err x.result _ x.ensures.0;
      numbers = IfOk-from_err x.result _ x.ensures.0;
      same = c.loop-i.invariant.0;
    }

pub returns-clause-same : goal.returns-clause-same
returns-clause-same c = c.loop-i.invariant.0

pub loop-i-init : goal.loop-i-init
loop-i-init c =
    rw (c.new-all.ensures.items) (
      refl,
      omega arith,
      omega arith,
      All-nil (λ i. i < length c.args.self.now),
      c.requires.left_rises,
      c.requires.right_rises,
      λ r. refl,
    )

pub place-requires : goal.place-requires
place-requires c =
    record {
      left = number_in c.loop-i.self c.args.left.now c.loop-i.i _ (rw (c.loop-i.invariant.0) c.requires.left)
          c.loop-i-test.true c.index-left-i.is;
      right = number_in c.loop-i.self c.args.right.now c.loop-i.j _ (rw (c.loop-i.invariant.0) c.requires.right)
          c.if-j-right.true c.index-right-j.is;
    }
