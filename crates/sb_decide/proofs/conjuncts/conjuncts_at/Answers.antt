use Rattle.sb_decide.proofs.Words.{None, sym, ◌∙◌, arith, get_or_default, nil_from_length}
use Rattle.sb_decide.proofs.RootFacts.{last_below, no_gap, walk_start, walk_on, walk_ends, walk_done}
use Rattle.sb_decide.proofs.conjuncts.conjuncts_at.Goals as goal

pub loop-place-init : goal.loop-place-init
loop-place-init c = (
  c.requires.within,
  λ rs n is rooted. walk_start rs c.args.members.now n c.args.places.now c.new-ids.result.items is
      c.new-ids.ensures.items,
)

pub returns-in-Some-known : goal.returns-in-Some-known
returns-in-Some-known c = λ rs n is rooted.
    let low = (last_below _ _ _ _ c.in-Some.ensures.cases.0 c.loop-place.invariant.0).1 in
    walk_ends rs c.args.members.now c.args.roots.now n c.loop-place.left.now c.in-Some.front.now
    c.loop-place.ids.items c.push.new.self.items c.in-Some.place.now c.in-Some-known.root c.in-Some.ensures.cases.0
    (get_or_default c.args.roots.now c.in-Some.place.now None _ (omega (arith, low, c.requires.abreast))
    ∙ (sym c.index-roots-place.is ∙ c.in-Some-known.is))
    c.in_ok-push.ensures.items rooted (c.loop-place.invariant.1 rs n is rooted)

pub returns-in_default-taken : goal.returns-in_default-taken
returns-in_default-taken c = λ rs n is rooted.
    absurd (no_gap rs c.args.members.now n c.loop-place.left.now c.in-Some.front.now c.loop-place.ids.items
    c.in-Some.place.now _ c.in-Some.ensures.cases.0 (sym c.index-members-place.is ∙ c.in_default-taken.is)
    (c.loop-place.invariant.1 rs n is rooted))

pub loop-place-preserved : goal.loop-place-preserved
loop-place-preserved c =
    let low = last_below _ _ _ _ c.in-Some.ensures.cases.0 c.loop-place.invariant.0 in (
      low.0,
      λ rs n is rooted. walk_on rs c.args.members.now n c.loop-place.left.now c.in-Some.front.now
          c.loop-place.ids.items c.push-in-Some.new.self.items c.in-Some.place.now _ c.in-Some-taken.member
          c.in-Some.ensures.cases.0 low.1 (sym c.index-members-place.is ∙ c.in-Some-taken.is)
          c.in_ok-push-2.ensures.items rooted.numbers
          (c.loop-place.invariant.1 rs n is rooted),
    )

pub returns : goal.returns
returns c = λ rs n is rooted.
    walk_done rs c.args.members.now n c.loop-place.left.now c.loop-place.ids.items
    (nil_from_length c.loop-place.left.now c.in_default.ensures.cases) (c.loop-place.invariant.1 rs n is rooted)

pub bounds-members-place : goal.bounds-members-place
bounds-members-place c = (last_below _ _ _ _ c.in-Some.ensures.cases.0 c.loop-place.invariant.0).1

pub bounds-roots-place : goal.bounds-roots-place
bounds-roots-place c =
    let low = (last_below _ _ _ _ c.in-Some.ensures.cases.0 c.loop-place.invariant.0).1 in
    omega (arith, low, c.requires.abreast)
