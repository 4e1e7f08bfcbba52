use Rattle.std.proofs.Common.{◌∙◌, sym, ap, arith}
use Rattle.std.specs.List.{slice_get}
use Rattle.sb_clauses.proofs.ListLemmas.{keeps, gives, lists_are, popped, popped_free, list_splits, list_ends, nodes_shown}
use Rattle.std.proofs.lemmas.Grind.{common_steps}
use Rattle.sb_clauses.proofs.watch_lists.WatchLists.pop.Goals as goal

pub get-behind-requires : goal.get-behind-requires
get-behind-requires c =
    (popped_free c.self.inside.heads c.self.inside.next c.args.self.now c.self.view_is c.self.invariant.0
    c.args.list c.in-Some.node c.requires (rw c.in-Some.is at c.get-first.ensures.value)).0

pub invariant_of-self : goal.invariant_of-self
invariant_of-self c = (
  rw c.set.ensures
      (keeps _ _ _ (popped c.self.inside.heads c.self.inside.next c.args.self.now c.self.view_is c.self.invariant.0
      c.args.list c.in-Some.node c.get-behind.result c.requires (rw c.in-Some.is at c.get-first.ensures.value)
      c.get-behind.ensures.value)),
  c.self.invariant.1,
)

pub returns-in-Some-clause-first : goal.returns-in-Some-clause-first
returns-in-Some-clause-first c =
    sym (ap (λ xs. slice_get xs 0)
    (list_splits c.self.inside.heads c.self.inside.next c.args.self.now c.self.view_is c.self.invariant.0
    c.args.list c.in-Some.node c.requires (rw c.in-Some.is at c.get-first.ensures.value)))

pub returns-in-Some-clause-rest : goal.returns-in-Some-clause-rest
returns-in-Some-clause-rest c =
    rw c.set.ensures
    (gives _ _ _ _ (popped c.self.inside.heads c.self.inside.next c.args.self.now c.self.view_is c.self.invariant.0
    c.args.list c.in-Some.node c.get-behind.result c.requires (rw c.in-Some.is at c.get-first.ensures.value)
    c.get-behind.ensures.value)
    (nodes_shown c.self.inside.heads c.self.inside.next c.args.self.now c.self.view_is c.self.invariant.0))

pub returns-in_default-clause-first : goal.returns-in_default-clause-first
returns-in_default-clause-first c =
    c.in_default.is ∙ sym
    (ap (λ xs. slice_get xs 0)
    (list_ends c.self.inside.heads c.self.inside.next c.args.self.now c.self.view_is c.self.invariant.0
    c.args.list c.get-first.result c.requires c.get-first.ensures.value c.in_default.is))

pub returns-in-Some-clause-nowhere : goal.returns-in-Some-clause-nowhere
returns-in-Some-clause-nowhere c =
    let free = popped_free c.self.inside.heads c.self.inside.next c.args.self.now c.self.view_is c.self.invariant.0
    c.args.list c.in-Some.node c.requires (rw c.in-Some.is at c.get-first.ensures.value) in
    let lists = popped c.self.inside.heads c.self.inside.next c.args.self.now c.self.view_is c.self.invariant.0
    c.args.list c.in-Some.node c.get-behind.result c.requires (rw c.in-Some.is at c.get-first.ensures.value)
    c.get-behind.ensures.value in
    (free.0, rw (c.set.ensures, lists_are _ _ _ lists) free.1)

pub returns-in_default-clause-rest : goal.returns-in_default-clause-rest
returns-in_default-clause-rest c = grind (arith, common_steps)
