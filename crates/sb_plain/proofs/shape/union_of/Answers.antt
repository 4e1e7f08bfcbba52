use Rattle.sb_plain.proofs.Runs.{union_same, numbers_same}
use Rattle.sb_plain.proofs.shape.union_of.Goals as goal

pub alt-requires : goal.alt-requires
alt-requires c =
    rw (c.deref.ensures.value)
    (numbers_same c.args.arena.now c.in_ok-members.members.items c.args.ids.now c.in_ok-members.ensures c.requires)

pub returns-clause-ok : goal.returns-clause-ok
returns-clause-ok c =
    rw (
      c.deref.ensures.value,
      union_same c.args.arena.now c.in_ok-members.members.items c.args.ids.now
          c.union_of_members.ensures c.normal_regexes_each_once.ensures.normal c.in_ok-members.ensures c.requires,
    ) at
    c.alt.ensures.ok
