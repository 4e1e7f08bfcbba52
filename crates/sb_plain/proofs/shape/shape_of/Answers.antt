use Rattle.std.proofs.Common.{◌∙◌, ap, sym, arith}
use Rattle.std.proofs.lemmas.Result.{IfOk-weaker}
use Rattle.sb_regex.specs.Nodes.{node_regex}
use Rattle.sb_plain.proofs.Shapes.{shape_with, of_none, of_eps, of_set_ranges, of_alt, of_and, of_not, of_star, of_cat, of_rep, of_path}
use Rattle.sb_plain.proofs.shape.shape_of.Goals as goal

pub returns-in-None : goal.returns-in-None
returns-in-None c =
    IfOk-weaker c.with_parts.result _ _
    (λ s e. shape_with c.args.arena.now c.args.id _ s.operation _ s.parts.items e.0 e.1
    (of_none c.args.arena.now c.args.id (ap (node_regex c.args.arena.now) (sym c.in-None.is) ∙ c.node.ensures.value)))
    c.with_parts.ensures

pub returns-in-Eps : goal.returns-in-Eps
returns-in-Eps c =
    IfOk-weaker c.with_parts-in-Eps.result _ _
    (λ s e. shape_with c.args.arena.now c.args.id _ s.operation _ s.parts.items e.0 e.1
    (of_eps c.args.arena.now c.args.id (ap (node_regex c.args.arena.now) (sym c.in-Eps.is) ∙ c.node.ensures.value)))
    c.with_parts-in-Eps.ensures

pub returns-in_ok-ranges-in-Set : goal.returns-in_ok-ranges-in-Set
returns-in_ok-ranges-in-Set c =
    IfOk-weaker c.with_parts-in-Set.result _ _
    (λ s e. shape_with c.args.arena.now c.args.id _ s.operation _ s.parts.items e.0 e.1
    (of_set_ranges c.args.arena.now c.args.id c.in_ok-ranges-in-Set.ranges c.in-Set.ranges.items
    (c.in_ok-ranges-in-Set.ensures.items ∙ c.as_slice.ensures.value)
    (ap (node_regex c.args.arena.now) (sym c.in-Set.is) ∙ c.node.ensures.value)))
    c.with_parts-in-Set.ensures

pub returns-in-Cat : goal.returns-in-Cat
returns-in-Cat c =
    let parts = rw (c.in-Cat.is) at c.node.ensures.parts in
    IfOk-weaker c.shape_of_cat.result _ _
    (λ s h. of_cat c.args.arena.now c.args.id c.in-Cat.a c.in-Cat.b s.operation s.parts.items (parts 0 0 (omega arith))
    (parts 1 0 (omega arith)) (ap (node_regex c.args.arena.now) (sym c.in-Cat.is) ∙ c.node.ensures.value) h)
    c.shape_of_cat.ensures

pub returns-in-Alt : goal.returns-in-Alt
returns-in-Alt c =
    let parts = rw (c.in-Alt.is) at c.node.ensures.parts in
    IfOk-weaker c.with_parts-in-Alt.result _ _
    (λ s e. shape_with c.args.arena.now c.args.id _ s.operation _ s.parts.items e.0 (e.1 ∙ c.as_slice-in-Alt.ensures)
    (of_alt c.args.arena.now c.args.id c.in-Alt.parts.items parts
    (ap (node_regex c.args.arena.now) (sym c.in-Alt.is) ∙ c.node.ensures.value)))
    c.with_parts-in-Alt.ensures

pub returns-in-And : goal.returns-in-And
returns-in-And c =
    let parts = rw (c.in-And.is) at c.node.ensures.parts in
    IfOk-weaker c.with_parts-in-And.result _ _
    (λ s e. shape_with c.args.arena.now c.args.id _ s.operation _ s.parts.items e.0 (e.1 ∙ c.as_slice-in-And.ensures)
    (of_and c.args.arena.now c.args.id c.in-And.parts.items parts
    (ap (node_regex c.args.arena.now) (sym c.in-And.is) ∙ c.node.ensures.value)))
    c.with_parts-in-And.ensures

pub returns-in-Not : goal.returns-in-Not
returns-in-Not c =
    let parts = rw (c.in-Not.is) at c.node.ensures.parts in
    IfOk-weaker c.with_parts-in-Not.result _ _
    (λ s e. shape_with c.args.arena.now c.args.id _ s.operation _ s.parts.items e.0 e.1
    (of_not c.args.arena.now c.args.id c.in-Not.a parts
    (ap (node_regex c.args.arena.now) (sym c.in-Not.is) ∙ c.node.ensures.value)))
    c.with_parts-in-Not.ensures

pub returns-in-Star : goal.returns-in-Star
returns-in-Star c =
    let parts = rw (c.in-Star.is) at c.node.ensures.parts in
    IfOk-weaker c.with_parts-in-Star.result _ _
    (λ s e. shape_with c.args.arena.now c.args.id _ s.operation _ s.parts.items e.0 e.1
    (of_star c.args.arena.now c.args.id c.in-Star.a c.requires parts
    (ap (node_regex c.args.arena.now) (sym c.in-Star.is) ∙ c.node.ensures.value)))
    c.with_parts-in-Star.ensures

pub returns-in-Rep : goal.returns-in-Rep
returns-in-Rep c =
    let parts = rw (c.in-Rep.is) at c.node.ensures.parts in
    IfOk-weaker c.shape_of_rep.result _ _
    (λ s h. of_rep c.args.arena.now c.args.id c.in-Rep.a c.in-Rep.least c.in-Rep.most s.operation s.parts.items parts
    (ap (node_regex c.args.arena.now) (sym c.in-Rep.is) ∙ c.node.ensures.value) h)
    c.shape_of_rep.ensures

pub returns-in-Path : goal.returns-in-Path
returns-in-Path c =
    let parts = rw (c.in-Path.is) at c.node.ensures.parts in
    IfOk-weaker c.with_parts-in-Path.result _ _
    (λ s e. shape_with c.args.arena.now c.args.id _ s.operation _ s.parts.items e.0 e.1
    (of_path c.args.arena.now c.args.id c.in-Path.a c.in-Path.b c.requires parts
    (ap (node_regex c.args.arena.now) (sym c.in-Path.is) ∙ c.node.ensures.value)))
    c.with_parts-in-Path.ensures
