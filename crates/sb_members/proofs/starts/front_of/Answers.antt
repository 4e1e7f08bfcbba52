use Rattle.std.proofs.Common.{ap, sym, ◌∙◌, arith}
use Rattle.sb_regex.specs.Nodes.{node_regex}
use Rattle.sb_regex.specs.Numbered.{regex_at}
use Rattle.sb_members.proofs.Heads.{front_of_cat, front_of_alt, front_of_other, other_node}
use Rattle.sb_members.proofs.starts.front_of.Goals as goal

pub returns-in-Cat-clause-front : goal.returns-in-Cat-clause-front
returns-in-Cat-clause-front c =
    let rs = c.args.arena.now in
    let parts = rw (c.in-Cat.is) at c.node.ensures.parts in
    front_of_cat c.derivative_has_rests.ensures c.mkalt_keeps_language.ensures rs c.args.regex c.in-Cat.head
    c.in-Cat.rest (parts 0 0 (omega arith)) (parts 1 0 (omega arith)) c.requires
    (ap (node_regex rs) (sym c.in-Cat.is) ∙ c.node.ensures.value)

pub returns-in_ok-none-in-Alt-clause-front : goal.returns-in_ok-none-in-Alt-clause-front
returns-in_ok-none-in-Alt-clause-front c =
    let rs = c.args.arena.now in
    let n = c.in_ok-none-in-Alt.ensures in
    front_of_alt rs c.none.new.self c.args.regex c.in_ok-none-in-Alt.none _ n.extends c.requires
    (ap (node_regex rs) (sym c.in-Alt.is) ∙ c.node.ensures.value) n.ok

pub returns-in_ok-empty-in_default : goal.returns-in_ok-empty-in_default
returns-in_ok-empty-in_default c =
    let rs = c.args.arena.now in
    let e = c.in_ok-empty-in_default.ensures in
    record {
      front = front_of_other c.derivative_has_rests.ensures rs c.eps.new.self c.args.regex c.in_ok-empty-in_default.empty
          e.extends c.requires
          (other_node rs c.node.result.now (regex_at rs c.args.regex) c.node.ensures.value c.in_default.not-Cat
          c.in_default.not-Alt)
          e.ok;
      extends = e.extends;
    }
