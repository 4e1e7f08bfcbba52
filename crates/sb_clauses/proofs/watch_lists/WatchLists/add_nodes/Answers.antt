use Rattle.std.proofs.Common.{◌≡◌, ℕ, ◌-◌, ◌++◌, ◌^◌, ◌<◌, length, max, replicate, Option, None, arith}
use Rattle.std.proofs.lemmas.List.{length-append, length-replicate}
use Rattle.sb_facts.proofs.CallerLemmas.{ok_then}
use Rattle.sb_clauses.specs.WatchLists.{lists_from, AreListsOf}
use Rattle.sb_clauses.proofs.LinkLemmas.{either_way}
use Rattle.sb_clauses.proofs.ListLemmas.{keeps, gives, more_nodes, nodes_shown}
use Rattle.sb_clauses.proofs.watch_lists.WatchLists.add_nodes.Goals as goal

pub invariant_of-self : goal.invariant_of-self
invariant_of-self c =
    let more = replicate {A = Option ℕ} (c.args.nodes - length c.self.inside.next) None in
    either_way c.grow.result
    (λ next. AreListsOf c.self.inside.heads next (lists_from c.self.inside.heads next) × (length next < 2 ^ 32))
    c.self.inside.next c.grow.new.self _ c.grow.ensures.ok c.grow.ensures.err c.self.invariant (
      keeps _ _ _ (more_nodes c.self.inside.heads c.self.inside.next c.args.self.now c.self.view_is c.self.invariant.0 c.args.nodes),
      omega (
        arith,
        length-append c.self.inside.next more,
        length-replicate {A = Option ℕ} (c.args.nodes - length c.self.inside.next) None,
        c.self.invariant.1,
        c.if-nodes-gt-NUMBERS.false,
      ),
    )

pub returns-clause-ok : goal.returns-clause-ok
returns-clause-ok c =
    let more = replicate {A = Option ℕ} (c.args.nodes - length c.self.inside.next) None in
    let len : length (c.self.inside.next ++ more) ≡ max c.args.self.now.nodes c.args.nodes =
    omega (
      arith,
      length-append c.self.inside.next more,
      length-replicate {A = Option ℕ} (c.args.nodes - length c.self.inside.next) None,
      nodes_shown c.self.inside.heads c.self.inside.next c.args.self.now c.self.view_is c.self.invariant.0,
    ) in
    ok_then c.grow.result _ _
    (λ grown. rw grown (gives _ _ _ _ (more_nodes c.self.inside.heads c.self.inside.next c.args.self.now c.self.view_is c.self.invariant.0 c.args.nodes) len)) c.grow.ensures.ok
