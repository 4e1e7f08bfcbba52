use Rattle.std.proofs.Common.{[], length, refl, arith}
use Rattle.std.proofs.lemmas.List.Elements.{All-nil}
use Rattle.std.proofs.lemmas.Option.{slice_get_within}
use Rattle.sb_atoms.proofs.CallerLemmas.{no_atoms}
use Rattle.sb_rules.proofs.kept.Kept.new.Goals as goal

pub returns-clause-over : goal.returns-clause-over
returns-clause-over c = λ ts. record {
  whole = record {
    regexes = rw c.new-5.ensures (All-nil _);
    plain = c.new-2.ensures c.new.result;
    atoms = rw c.new-6.ensures (no_atoms (length c.new.result));
    brought = rw c.new-6.ensures refl;
    formed = rw c.new-6.ensures refl;
  };
  normals = c.new-3.ensures ts c.new.result;
  measures = rw c.new-4.ensures (record {
    few = omega arith;
    each = λ i m h. absurd (omega (arith, slice_get_within [] i m h));
  });
}
