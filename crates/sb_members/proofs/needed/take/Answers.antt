use Rattle.std.proofs.Common.{ap, sym, ◌∙◌, arith, subst}
use Rattle.std.proofs.lemmas.Result.{on_ok_weaker}
use Rattle.sb_regex.specs.Nodes.{node_regex, PartsBelow}
use Rattle.sb_members.proofs.Stronger.{taken_dropped, taken_kept, taken_noted}
use Rattle.sb_members.proofs.needed.take.Goals as goal

pub returns-then-contains : goal.returns-then-contains
returns-then-contains c =
    let rs = c.args.arena.now in
    taken_dropped rs c.args.part c.in-Cat.head c.in-Cat.rest c.args.kept.now.items c.args.weaker.now.keys
    (ap (node_regex rs) (sym c.in-Cat.is) ∙ c.node.ensures.value) (sym c.contains.ensures ∙ c.if-contains.true)

pub returns-in_ok-push-in-Cat : goal.returns-in_ok-push-in-Cat
returns-in_ok-push-in-Cat c =
    let rs = c.args.arena.now in
    on_ok_weaker c.note.result
    (λ noted. taken_noted rs c.args.part c.in-Cat.head c.in-Cat.rest c.args.kept.now.items c.push.new.self.items
    c.args.weaker.now.keys c.note.new.weaker.keys c.requires
    (ap (node_regex rs) (sym c.in-Cat.is) ∙ c.node.ensures.value) c.in_ok-push-in-Cat.ensures.items noted)
    c.note.ensures

pub returns-in_ok-push-in_default : goal.returns-in_ok-push-in_default
returns-in_ok-push-in_default c =
    taken_kept c.args.arena.now c.args.part c.args.kept.now.items c.push-in_default.new.self.items
    c.args.weaker.now.keys c.requires c.in_ok-push-in_default.ensures.items

pub note-requires : goal.note-requires
note-requires c =
    let parts = subst (PartsBelow c.args.part) c.in-Cat.is c.node.ensures.parts in
    record {
      head = omega (arith, parts 0 0 (omega arith), c.requires);
      rest = omega (arith, parts 1 0 (omega arith), c.requires);
    }
