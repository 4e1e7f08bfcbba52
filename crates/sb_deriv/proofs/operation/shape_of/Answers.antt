use Rattle.std.proofs.Common.{◌∙◌, ap, sym, arith}
use Rattle.sb_regex.specs.Nodes.{node_regex}
use Rattle.sb_deriv.proofs.Shapes.{shape_none, shape_eps, shape_set, made_alt, made_and, made_not, made_star, made_path, shape_rep}
use Rattle.sb_deriv.proofs.operation.shape_of.Goals as goal

pub returns-in-None : goal.returns-in-None
returns-in-None c = shape_none c.args.arena.now _ _ c.node.ensures.value c.in-None.is

pub returns-in-Eps : goal.returns-in-Eps
returns-in-Eps c = shape_eps c.args.arena.now _ _ c.node.ensures.value c.in-Eps.is

pub returns-in_ok-from_slice-in-Set : goal.returns-in_ok-from_slice-in-Set
returns-in_ok-from_slice-in-Set c =
    shape_set c.args.arena.now c.args.id c.in-Set.ranges.items _ c.normal_regexes_each_once.ensures.normal c.requires
    (ap (node_regex c.args.arena.now) (sym c.in-Set.is) ∙ c.node.ensures.value)
    (c.in_ok-from_slice-in-Set.ensures.items ∙ c.as_slice.ensures.value)

pub returns-in-Cat : goal.returns-in-Cat
returns-in-Cat c =
    let parts = rw (c.in-Cat.is) at c.node.ensures.parts in (
      parts 0 0 (omega arith),
      parts 1 0 (omega arith),
      sym (ap (node_regex c.args.arena.now) (sym c.in-Cat.is) ∙ c.node.ensures.value),
    )

pub returns-in_ok-parts-in-Alt : goal.returns-in_ok-parts-in-Alt
returns-in_ok-parts-in-Alt c =
    let parts = rw (c.in-Alt.is) at c.node.ensures.parts in
    made_alt c.args.arena.now c.args.id c.in-Alt.parts.items _ parts (ap (node_regex c.args.arena.now) (sym c.in-Alt.is)
    ∙ c.node.ensures.value) (c.in_ok-parts-in-Alt.ensures.ok ∙ c.as_slice-in-Alt.ensures)

pub returns-in_ok-parts-in-And : goal.returns-in_ok-parts-in-And
returns-in_ok-parts-in-And c =
    let parts = rw (c.in-And.is) at c.node.ensures.parts in
    made_and c.args.arena.now c.args.id c.in-And.parts.items _ parts (ap (node_regex c.args.arena.now) (sym c.in-And.is)
    ∙ c.node.ensures.value) (c.in_ok-parts-in-And.ensures.ok ∙ c.as_slice-in-And.ensures)

pub returns-in_ok-parts-in-Not : goal.returns-in_ok-parts-in-Not
returns-in_ok-parts-in-Not c =
    let parts = rw (c.in-Not.is) at c.node.ensures.parts in
    made_not c.args.arena.now c.args.id c.in-Not.a _ parts (ap (node_regex c.args.arena.now) (sym c.in-Not.is)
    ∙ c.node.ensures.value) c.in_ok-parts-in-Not.ensures.ok

pub returns-in_ok-parts-in-Star : goal.returns-in_ok-parts-in-Star
returns-in_ok-parts-in-Star c =
    let parts = rw (c.in-Star.is) at c.node.ensures.parts in
    made_star c.args.arena.now c.args.id c.in-Star.a _ c.requires parts
    (ap (node_regex c.args.arena.now) (sym c.in-Star.is) ∙ c.node.ensures.value) c.in_ok-parts-in-Star.ensures.ok

pub returns-in-Rep : goal.returns-in-Rep
returns-in-Rep c =
    let parts = rw (c.in-Rep.is) at c.node.ensures.parts in
    let value = ap (node_regex c.args.arena.now) (sym c.in-Rep.is) ∙ c.node.ensures.value in (
      parts 0 0 (omega arith),
      shape_rep c.args.arena.now c.args.id c.in-Rep.a c.in-Rep.least c.in-Rep.most
          c.normal_regexes_each_once.ensures.normal c.requires value,
      sym value,
    )

pub returns-in_ok-parts-in-Path : goal.returns-in_ok-parts-in-Path
returns-in_ok-parts-in-Path c =
    let parts = rw (c.in-Path.is) at c.node.ensures.parts in
    made_path c.args.arena.now c.args.id c.in-Path.a c.in-Path.b _ c.requires parts
    (ap (node_regex c.args.arena.now) (sym c.in-Path.is) ∙ c.node.ensures.value) c.in_ok-parts-in-Path.ensures.ok
