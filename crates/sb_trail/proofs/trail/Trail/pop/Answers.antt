use Rattle.std.proofs.Common.{ap, arith}
use Rattle.sb_lit.specs.declared.clause.Lit.{Lit}
use Rattle.sb_trail.proofs.TableLemmas.{AreTables-popped, popped_within}
use Rattle.sb_trail.proofs.trail.Trail.pop.Goals as goal

pub index_mut-requires : goal.index_mut-requires
index_mut-requires c =
    omega (
      arith,
      popped_within c.pop_entry.new.entries.items c.in-Some.entry c.in-Some.ensures.cases
          c.self.invariant,
      ap (λ (l : Lit). l.atom) c.literal-atom.ensures,
      c.self.invariant.covered,
      c.self.inside.values.ok.0,
    )

pub index_mut-requires-2 : goal.index_mut-requires-2
index_mut-requires-2 c =
    omega (
      arith,
      popped_within c.pop_entry.new.entries.items c.in-Some.entry c.in-Some.ensures.cases
          c.self.invariant,
      ap (λ (l : Lit). l.atom) c.literal-atom.ensures,
      c.self.inside.places.ok.0,
    )

pub invariant_of-self-2 : goal.invariant_of-self-2
invariant_of-self-2 c =
    rw (c.in-Some.ensures.capacity, c.literal-atom.ensures)
    (AreTables-popped c.pop_entry.new.entries.items c.in-Some.entry c.in-Some.ensures.cases
    c.self.invariant)
