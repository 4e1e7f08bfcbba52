use Rattle.sb_clauses.proofs.ListLemmas.{keeps, gives, put_there, nodes_shown}
use Rattle.sb_clauses.proofs.watch_lists.WatchLists.put.Goals as goal

pub invariant_of-self : goal.invariant_of-self
invariant_of-self c = (
  rw (c.set-2.ensures, c.set.ensures)
      (keeps _ _ _ (put_there c.self.inside.heads c.self.inside.next c.args.self.now c.self.view_is c.self.invariant.0
      c.args.from c.args.to c.get-first.result c.requires.from c.requires.to c.requires.apart
      c.requires.empty c.get-first.ensures.value)),
  c.self.invariant.1,
)

pub returns : goal.returns
returns c =
    rw (c.set-2.ensures, c.set.ensures)
    (gives _ _ _ _ (put_there c.self.inside.heads c.self.inside.next c.args.self.now c.self.view_is c.self.invariant.0
    c.args.from c.args.to c.get-first.result c.requires.from c.requires.to c.requires.apart
    c.requires.empty c.get-first.ensures.value)
    (nodes_shown c.self.inside.heads c.self.inside.next c.args.self.now c.self.view_is c.self.invariant.0))
