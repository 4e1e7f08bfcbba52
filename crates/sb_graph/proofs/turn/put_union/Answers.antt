use Rattle.std.proofs.Common.{ap, sym, ◌∙◌}
use Rattle.std.proofs.lemmas.Result.{on_ok_weaker}
use Rattle.sb_regex.specs.Nodes.{node_regex}
use Rattle.sb_graph.proofs.WalkSteps.{put_none, put_alt, put_one}
use Rattle.sb_graph.proofs.turn.put_union.Goals as goal

pub returns-in-None : goal.returns-in-None
returns-in-None c =
    put_none c.args.arena.now c.args.target (c.args.place, c.args.character) c.args.queue.now
    (ap (node_regex c.args.arena.now) (sym c.in-None.is) ∙ c.node.ensures.value)

pub returns-in-Alt : goal.returns-in-Alt
returns-in-Alt c =
    let parts = rw (c.in-Alt.is) at c.node.ensures.parts in
    let value = ap (node_regex c.args.arena.now) (sym c.in-Alt.is) ∙ c.node.ensures.value in
    on_ok_weaker c.put_each.result
    (λ is. put_alt c.args.arena.now c.args.target (c.args.place, c.args.character) c.args.queue.now
    c.put_each.new.self c.in-Alt.parts.items c.as_slice.result.now c.requires parts value c.as_slice.ensures is)
    c.put_each.ensures

pub returns-in_default : goal.returns-in_default
returns-in_default c =
    on_ok_weaker c.put.result
    (λ is. put_one c.args.arena.now c.args.target (c.args.place, c.args.character) c.args.queue.now c.put.new.self
    c.requires is)
    c.put.ensures
