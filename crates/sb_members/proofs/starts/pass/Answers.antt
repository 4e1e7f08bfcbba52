use Rattle.std.proofs.Common.{ap, sym, refl, ◌∙◌, arith}
use Rattle.std.proofs.lemmas.Result.{on_ok_weaker}
use Rattle.sb_regex.specs.Nodes.{node_regex}
use Rattle.sb_members.proofs.Beginnings.{with_rest, with_head, with_members, with_other}
use Rattle.sb_members.proofs.starts.pass.Goals as goal

pub returns-then-nullable : goal.returns-then-nullable
returns-then-nullable c =
    let rs = c.args.arena.now in
    let parts = rw (c.in-Cat.is) at c.node.ensures.parts in
    let value = ap (node_regex rs) (sym c.in-Cat.is) ∙ c.node.ensures.value in
    on_ok_weaker c.put_each.result
    (λ p. with_rest c.nullable_has_empty_word.ensures rs c.args.regex c.in-Cat.head c.in-Cat.rest
    c.args.starts.now.keys c.put_each.new.starts.keys _
    (omega (arith, parts 1 0 (omega arith), c.requires)) value (sym c.nullable.ensures ∙ c.if-nullable.true) refl p.0 p.1)
    c.put_each.ensures

pub returns-else-nullable : goal.returns-else-nullable
returns-else-nullable c =
    let rs = c.args.arena.now in
    let value = ap (node_regex rs) (sym c.in-Cat.is) ∙ c.node.ensures.value in
    with_head rs c.args.regex c.in-Cat.head c.in-Cat.rest c.args.starts.now.keys value
    (sym c.nullable.ensures ∙ c.if-nullable.false)

pub returns-in-Alt : goal.returns-in-Alt
returns-in-Alt c =
    let rs = c.args.arena.now in
    let parts = rw (c.in-Alt.is) at c.node.ensures.parts in
    let value = ap (node_regex rs) (sym c.in-Alt.is) ∙ c.node.ensures.value in
    on_ok_weaker c.put_each-in-Alt.result
    (λ p. with_members rs c.args.regex c.args.starts.now.keys c.put_each-in-Alt.new.starts.keys c.in-Alt.parts.items
    c.as_slice.result.now c.requires parts value c.as_slice.ensures p.0 p.1)
    c.put_each-in-Alt.ensures

pub returns-in_default : goal.returns-in_default
returns-in_default c =
    with_other c.args.arena.now c.args.regex c.node.result.now c.args.starts.now.keys c.node.ensures.value
    c.in_default.not-Cat c.in_default.not-Alt
