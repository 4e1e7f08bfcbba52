use Rattle.std.proofs.Common.{ap, sym, subst, ◌∙◌}
use Rattle.sb_regex.specs.Nodes.{node_regex}
use Rattle.sb_members.specs.Members.{IsSplit}
use Rattle.sb_members.proofs.Splits.{split_alt}
use Rattle.sb_members.proofs.divide.members_of.Goals as goal

pub returns-in_ok-members-in-Alt : goal.returns-in_ok-members-in-Alt
returns-in_ok-members-in-Alt c =
    let rs = c.args.arena.now in
    let parts = rw (c.in-Alt.is) at c.node.ensures.parts in
    let value = ap (node_regex rs) (sym c.in-Alt.is) ∙ c.node.ensures.value in
    subst (IsSplit rs c.args.regex) (sym (c.in_ok-members-in-Alt.ensures.items ∙ c.as_slice.ensures))
    (split_alt rs c.args.regex c.in-Alt.parts.items c.requires parts value)
