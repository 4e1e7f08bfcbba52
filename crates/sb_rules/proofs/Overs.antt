-- What is kept of a table's terms stays so where only regexes, atoms and clauses become more.
use Rattle.std.proofs.Common.{List, subst, sym}
use Rattle.sb_meaning.specs.Terms.{Term}
use Rattle.sb_problem.specs.Known.{AreNormals}
use Rattle.sb_problem.specs.Laws.{NormalsStay}
use Rattle.sb_fragment.specs.Measures.{AreMeasures}
use Rattle.sb_term.proofs.CallerLemmas.{extends_same}
use Rattle.sb_rules.specs.declared.kept.Kept.{Kept}
use Rattle.sb_rules.specs.Kept.{IsWhole, IsOver, KeepsTerms}

pub over_kept : NormalsStay → (ts : List Term) (old new : Kept) → IsOver ts old → IsWhole new → KeepsTerms old new
    → IsOver ts new
over_kept stay ts old new o w k = record {
  whole = w;
  normals = subst (λ ns. AreNormals ts new.arena ns) (sym k.normals)
      (stay ts ts old.arena new.arena old.normals (extends_same ts) k.extends o.normals);
  measures = subst (λ ms. AreMeasures ts ms) (sym k.measures) o.measures;
}
