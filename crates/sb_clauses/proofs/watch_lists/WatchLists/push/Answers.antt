use Rattle.std.proofs.Common.{◌∙◌, arith}
use Rattle.std.proofs.lemmas.List.{length-set}
use Rattle.sb_clauses.proofs.ListLemmas.{keeps, gives, pushed, nodes_shown}
use Rattle.sb_clauses.proofs.watch_lists.WatchLists.push.Goals as goal

pub invariant_of-self : goal.invariant_of-self
invariant_of-self c = (
  rw (c.set-2.ensures, c.set.ensures)
      (keeps _ _ _ (pushed c.self.inside.heads c.self.inside.next c.args.self.now c.self.view_is c.self.invariant.0
      c.args.list c.args.node c.get-behind.result c.requires.list c.requires.node c.requires.nowhere
      c.get-behind.ensures.value)),
  rw c.set.ensures
      (omega (arith, c.self.invariant.1, length-set c.self.inside.next c.args.node c.get-behind.result)),
)

pub returns : goal.returns
returns c =
    rw (c.set-2.ensures, c.set.ensures)
    (gives _ _ _ _ (pushed c.self.inside.heads c.self.inside.next c.args.self.now c.self.view_is c.self.invariant.0
    c.args.list c.args.node c.get-behind.result c.requires.list c.requires.node c.requires.nowhere
    c.get-behind.ensures.value) (length-set c.self.inside.next c.args.node c.get-behind.result
    ∙ nodes_shown c.self.inside.heads c.self.inside.next c.args.self.now c.self.view_is c.self.invariant.0))
