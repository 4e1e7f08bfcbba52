use Rattle.std.proofs.Common.{ap, sym, ◌∙◌, arith}
use Rattle.sb_regex.specs.Nodes.{node_regex}
use Rattle.sb_regex.proofs.Comparing.{none_first, eps_first, set_first, cat_first, alt_first, and_first, not_first, star_first, rep_first, path_first, unions_differ, intersections_differ, rests_differ, heads_differ, bounds_differ, bodies_differ, ends_differ, starts_differ}
use Rattle.sb_regex.proofs.arena.Arena.difference.Goals as goal

pub returns-in_default : goal.returns-in_default
returns-in_default c =
    rw (c.by_kind-in_default.ensures)
    (set_first c.order_is_by_parts.ensures c.order_is_total.ensures c.args.self.now c.args.a c.args.b _ _
    c.node-left.ensures.value c.node-right.ensures.value c.in-Set.r c.in-Set.is c.in_default.not-Set)

pub returns-in_default-right : goal.returns-in_default-right
returns-in_default-right c =
    rw (c.by_kind-in_default-right.ensures)
    (cat_first c.order_is_by_parts.ensures c.order_is_total.ensures c.args.self.now c.args.a c.args.b _ _
    c.node-left.ensures.value c.node-right.ensures.value c.in-Cat.p c.in-Cat.q c.in-Cat.is c.in_default-right.not-Cat)

pub returns-in_default-right-2 : goal.returns-in_default-right-2
returns-in_default-right-2 c =
    rw (c.by_kind-in_default-right-2.ensures)
    (alt_first c.order_is_by_parts.ensures c.order_is_total.ensures c.args.self.now c.args.a c.args.b _ _
    c.node-left.ensures.value c.node-right.ensures.value c.in-Alt.ps c.in-Alt.is c.in_default-right-2.not-Alt)

pub returns-in_default-right-3 : goal.returns-in_default-right-3
returns-in_default-right-3 c =
    rw (c.by_kind-in_default-right-3.ensures)
    (and_first c.order_is_by_parts.ensures c.order_is_total.ensures c.args.self.now c.args.a c.args.b _ _
    c.node-left.ensures.value c.node-right.ensures.value c.in-And.ps c.in-And.is c.in_default-right-3.not-And)

pub returns-in_default-right-4 : goal.returns-in_default-right-4
returns-in_default-right-4 c =
    rw (c.by_kind-in_default-right-4.ensures)
    (not_first c.order_is_by_parts.ensures c.order_is_total.ensures c.args.self.now c.args.a c.args.b _ _
    c.node-left.ensures.value c.node-right.ensures.value c.in-Not.p c.in-Not.is c.in_default-right-4.not-Not)

pub returns-in_default-right-5 : goal.returns-in_default-right-5
returns-in_default-right-5 c =
    rw (c.by_kind-in_default-right-5.ensures)
    (star_first c.order_is_by_parts.ensures c.order_is_total.ensures c.args.self.now c.args.a c.args.b _ _
    c.node-left.ensures.value c.node-right.ensures.value c.in-Star.p c.in-Star.is c.in_default-right-5.not-Star)

pub returns-in-None : goal.returns-in-None
returns-in-None c = rw (c.by_kind.ensures)
    (none_first c.order_is_by_parts.ensures c.order_is_total.ensures c.args.self.now c.args.a c.args.b _ _
    c.node-left.ensures.value c.node-right.ensures.value c.in-None.is)

pub returns-in-Eps : goal.returns-in-Eps
returns-in-Eps c = rw (c.by_kind-in-Eps.ensures)
    (eps_first c.order_is_by_parts.ensures c.order_is_total.ensures c.args.self.now c.args.a c.args.b _ _
    c.node-left.ensures.value c.node-right.ensures.value c.in-Eps.is)

pub returns-then-eq : goal.returns-then-eq
returns-then-eq c =
    let f = ap (node_regex c.args.self.now) (sym c.in-Cat.is) ∙ c.node-left.ensures.value in
    let g = ap (node_regex c.args.self.now) (sym c.in-Cat-right.is) ∙ c.node-right.ensures.value in
    let p = rw (c.in-Cat.is) at c.node-left.ensures.parts in
    let q = rw (c.in-Cat-right.is) at c.node-right.ensures.parts in (
      p 1 0 (omega arith),
      q 1 0 (omega arith),
      rests_differ c.order_is_by_parts.ensures c.order_is_total.ensures c.args.self.now c.args.a c.args.b _ _ _ _ f g
          (sym c.eq.ensures ∙ c.if-eq.true),
    )

pub returns-else-eq : goal.returns-else-eq
returns-else-eq c =
    let f = ap (node_regex c.args.self.now) (sym c.in-Cat.is) ∙ c.node-left.ensures.value in
    let g = ap (node_regex c.args.self.now) (sym c.in-Cat-right.is) ∙ c.node-right.ensures.value in
    let p = rw (c.in-Cat.is) at c.node-left.ensures.parts in
    let q = rw (c.in-Cat-right.is) at c.node-right.ensures.parts in
    let l = p 0 0 (omega arith) in
    let m = q 0 0 (omega arith) in (
      l,
      m,
      heads_differ c.order_is_by_parts.ensures c.order_tells_apart.ensures c.args.self.now
          c.normal_regexes_each_once.ensures.distinct c.args.a c.args.b _ _ _ _ f g (omega (arith, l, c.requires.left))
          (omega (arith, m, c.requires.right)) (sym c.eq.ensures ∙ c.if-eq.false),
    )

pub returns-in-Alt-right : goal.returns-in-Alt-right
returns-in-Alt-right c =
    let f = ap (node_regex c.args.self.now) (sym c.in-Alt.is) ∙ c.node-left.ensures.value in
    let g = ap (node_regex c.args.self.now) (sym c.in-Alt-right.is) ∙ c.node-right.ensures.value in
    let p = rw (c.in-Alt.is) at c.node-left.ensures.parts in
    let q = rw (c.in-Alt-right.is) at c.node-right.ensures.parts in
    unions_differ c.order_is_by_parts.ensures c.order_tells_apart.ensures c.order_is_total.ensures c.args.self.now
    c.normal_regexes_each_once.ensures.distinct c.args.a c.args.b c.requires.left c.requires.right
    c.in-Alt.ps.items c.in-Alt-right.qs.items p q f g _
    (rw (c.as_slice-in-Alt.ensures, c.as_slice-in-Alt-2.ensures) at c.first_difference.ensures)

pub returns-in-And-right : goal.returns-in-And-right
returns-in-And-right c =
    let f = ap (node_regex c.args.self.now) (sym c.in-And.is) ∙ c.node-left.ensures.value in
    let g = ap (node_regex c.args.self.now) (sym c.in-And-right.is) ∙ c.node-right.ensures.value in
    let p = rw (c.in-And.is) at c.node-left.ensures.parts in
    let q = rw (c.in-And-right.is) at c.node-right.ensures.parts in
    intersections_differ c.order_is_by_parts.ensures c.order_tells_apart.ensures c.order_is_total.ensures
    c.args.self.now c.normal_regexes_each_once.ensures.distinct c.args.a c.args.b c.requires.left c.requires.right
    c.in-And.ps.items c.in-And-right.qs.items p q f g _
    (rw (c.as_slice-in-And.ensures, c.as_slice-in-And-2.ensures) at c.first_difference-in-And.ensures)

pub returns-in_default-right-6 : goal.returns-in_default-right-6
returns-in_default-right-6 c =
    rw (c.by_kind-in_default-right-6.ensures)
    (rep_first c.order_is_by_parts.ensures c.order_is_total.ensures c.args.self.now c.args.a c.args.b _ _
    c.node-left.ensures.value c.node-right.ensures.value c.in-Rep.p c.in-Rep.least c.in-Rep.most c.in-Rep.is
    c.in_default-right-6.not-Rep)

pub returns-then-eq-2 : goal.returns-then-eq-2
returns-then-eq-2 c =
    let f = ap (node_regex c.args.self.now) (sym c.in-Rep.is) ∙ c.node-left.ensures.value in
    let g = ap (node_regex c.args.self.now) (sym c.in-Rep-right.is) ∙ c.node-right.ensures.value in
    rw (c.by_bounds.ensures)
    (bounds_differ c.order_is_by_parts.ensures c.order_is_total.ensures c.args.self.now c.args.a c.args.b _ _ _ _ _ _ f g
    (sym c.eq-in-Rep.ensures ∙ c.if-eq-2.true))

pub returns-else-eq-2 : goal.returns-else-eq-2
returns-else-eq-2 c =
    let f = ap (node_regex c.args.self.now) (sym c.in-Rep.is) ∙ c.node-left.ensures.value in
    let g = ap (node_regex c.args.self.now) (sym c.in-Rep-right.is) ∙ c.node-right.ensures.value in
    let p = rw (c.in-Rep.is) at c.node-left.ensures.parts in
    let q = rw (c.in-Rep-right.is) at c.node-right.ensures.parts in
    let l = p 0 0 (omega arith) in
    let m = q 0 0 (omega arith) in (
      l,
      m,
      bodies_differ c.order_is_by_parts.ensures c.order_tells_apart.ensures c.args.self.now
          c.normal_regexes_each_once.ensures.distinct c.args.a c.args.b _ _ _ _ _ _ f g
          (omega (arith, l, c.requires.left)) (omega (arith, m, c.requires.right))
          (sym c.eq-in-Rep.ensures ∙ c.if-eq-2.false),
    )

pub returns-in_default-right-7 : goal.returns-in_default-right-7
returns-in_default-right-7 c =
    rw (c.by_kind-in_default-right-7.ensures)
    (path_first c.order_is_by_parts.ensures c.order_is_total.ensures c.args.self.now c.args.a c.args.b _ _
    c.node-left.ensures.value c.node-right.ensures.value c.in-Path.p c.in-Path.q c.in-Path.is
    c.in_default-right-7.not-Path)

pub returns-then-eq-3 : goal.returns-then-eq-3
returns-then-eq-3 c =
    let f = ap (node_regex c.args.self.now) (sym c.in-Path.is) ∙ c.node-left.ensures.value in
    let g = ap (node_regex c.args.self.now) (sym c.in-Path-right.is) ∙ c.node-right.ensures.value in
    let p = rw (c.in-Path.is) at c.node-left.ensures.parts in
    let q = rw (c.in-Path-right.is) at c.node-right.ensures.parts in (
      p 1 0 (omega arith),
      q 1 0 (omega arith),
      ends_differ c.order_is_by_parts.ensures c.order_is_total.ensures c.args.self.now c.args.a c.args.b _ _ _ _ f g
          (sym c.eq-in-Path.ensures ∙ c.if-eq-3.true),
    )

pub returns-else-eq-3 : goal.returns-else-eq-3
returns-else-eq-3 c =
    let f = ap (node_regex c.args.self.now) (sym c.in-Path.is) ∙ c.node-left.ensures.value in
    let g = ap (node_regex c.args.self.now) (sym c.in-Path-right.is) ∙ c.node-right.ensures.value in
    let p = rw (c.in-Path.is) at c.node-left.ensures.parts in
    let q = rw (c.in-Path-right.is) at c.node-right.ensures.parts in
    let l = p 0 0 (omega arith) in
    let m = q 0 0 (omega arith) in (
      l,
      m,
      starts_differ c.order_is_by_parts.ensures c.order_tells_apart.ensures c.args.self.now
          c.normal_regexes_each_once.ensures.distinct c.args.a c.args.b _ _ _ _ f g (omega (arith, l, c.requires.left))
          (omega (arith, m, c.requires.right)) (sym c.eq-in-Path.ensures ∙ c.if-eq-3.false),
    )
