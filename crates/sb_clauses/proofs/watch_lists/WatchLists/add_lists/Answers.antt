use Rattle.sb_clauses.specs.WatchLists.{lists_from, AreListsOf}
use Rattle.sb_facts.proofs.CallerLemmas.{ok_then}
use Rattle.sb_clauses.proofs.LinkLemmas.{either_way}
use Rattle.sb_clauses.proofs.ListLemmas.{keeps, gives, more_lists, nodes_shown}
use Rattle.sb_clauses.proofs.watch_lists.WatchLists.add_lists.Goals as goal

pub invariant_of-self : goal.invariant_of-self
invariant_of-self c = (
  either_way c.grow.result
      (λ heads. AreListsOf heads c.self.inside.next (lists_from heads c.self.inside.next))
      c.self.inside.heads c.grow.new.self _ c.grow.ensures.ok c.grow.ensures.err c.self.invariant.0
      (keeps _ _ _ (more_lists c.self.inside.heads c.self.inside.next c.args.self.now c.self.view_is c.self.invariant.0 c.args.lists)),
  c.self.invariant.1,
)

pub returns-clause-ok : goal.returns-clause-ok
returns-clause-ok c =
    ok_then c.grow.result _ _
    (λ grown. rw grown (gives _ _ _ _ (more_lists c.self.inside.heads c.self.inside.next c.args.self.now c.self.view_is c.self.invariant.0 c.args.lists)
    (nodes_shown c.self.inside.heads c.self.inside.next c.args.self.now c.self.view_is c.self.invariant.0))) c.grow.ensures.ok
