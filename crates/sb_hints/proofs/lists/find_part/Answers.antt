use Rattle.std.proofs.Common.{◌<◌, length, sym, ◌∙◌, subst, arith}
use Rattle.sb_hints.specs.Listing.{steps_of}
use Rattle.sb_hints.proofs.Searching.{walk_start, walk_next, walk_found, walk_end, below_later, steps_fall}
use Rattle.sb_hints.proofs.lists.find_part.Goals as goal

pub loop-next-init : goal.loop-next-init
loop-next-init c = record {
  below = c.requires.below;
  walk = walk_start _ _ (length c.args.rows.now) c.args.newest c.requires.linked c.requires.below;
}

pub is_part-requires-clause-inside : goal.is_part-requires-clause-inside
is_part-requires-clause-inside c = rw c.in-Some.is at c.loop-next.invariant.below

pub returns-then-is_part-clause-found : goal.returns-then-is_part-clause-found
returns-then-is_part-clause-found c =
    walk_found _ _ c.in-Some.number _ (rw c.in-Some.is at c.loop-next.invariant.walk)
    (sym c.is_part.ensures ∙ c.if-is_part.true)

pub loop-next-smaller : goal.loop-next-smaller
loop-next-smaller c =
    subst (λ next. steps_of c.before-next.result < steps_of next) (sym c.in-Some.is)
    (steps_fall c.in-Some.number c.before-next.result
    (rw (← c.before-next.ensures) at (c.requires.linked c.in-Some.number)))

pub loop-next-preserved : goal.loop-next-preserved
loop-next-preserved c =
    let inside = rw c.in-Some.is at c.loop-next.invariant.below in
    let linked = c.requires.linked c.in-Some.number in
    record {
      below = rw c.before-next.ensures
          (below_later c.in-Some.number (length c.args.rows.now) _ (omega (arith, inside)) linked);
      walk = rw c.before-next.ensures
          (walk_next _ _ c.in-Some.number _ c.requires.linked (rw c.in-Some.is at c.loop-next.invariant.walk)
          (sym c.is_part.ensures ∙ c.if-is_part.false));
    }

pub returns-clause-found : goal.returns-clause-found
returns-clause-found c = walk_end _ _ _ (rw c.in_default.is at c.loop-next.invariant.walk)
