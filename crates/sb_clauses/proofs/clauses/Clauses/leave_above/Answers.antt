use Rattle.std.proofs.Common.{◌≡◌, ◌++◌, drop, take, length, arith}
use Rattle.std.proofs.lemmas.List.{take_at}
use Rattle.std.proofs.lemmas.Grind.{common_steps}
use Rattle.sb_clauses.proofs.clauses.Clauses.leave_above.Goals as goal

pub invariant_of-self : goal.invariant_of-self
invariant_of-self c =
    let news = c.drop_records_above.new.records in
    let olds = c.self.inside.records.items in
    let same : length news ≡ c.self.inside.records.len = omega (
      arith,
      c.self.inside.records.ok.0,
      c.drop_records_above.auto.records,
    ) in
    let is : take c.self.inside.records.len (news ++ drop (length news) olds) ≡ news =
    take_at news (drop (length news) olds) c.self.inside.records.len same in
    rw is (
      c.drop_records_above.ensures.scoped,
      c.drop_records_above.ensures.found,
      c.drop_records_above.ensures.empty c.self.inside.emptied (rw c.deref_mut.ensures.value c.self.invariant.2),
    )

pub returns : goal.returns
returns c = grind (arith, common_steps)

pub drop_records_above-requires-clause-found : goal.drop_records_above-requires-clause-found
drop_records_above-requires-clause-found c = rw c.deref_mut.ensures.value c.self.invariant.1

pub drop_records_above-requires-clause-scoped : goal.drop_records_above-requires-clause-scoped
drop_records_above-requires-clause-scoped c = rw c.deref_mut.ensures.value c.self.invariant.0
