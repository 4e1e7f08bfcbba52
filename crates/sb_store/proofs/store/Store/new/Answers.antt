use Rattle.std.proofs.Common.{List, subst, sym}
use Rattle.sb_fragment.proofs.CallerLemmas.{no_measures}
use Rattle.sb_fragment.specs.Measures.{AreMeasures}
use Rattle.sb_fragment.specs.declared.measure.Measure.{Measure}
use Rattle.sb_store.proofs.store.Store.new.Goals as goal

pub returns : goal.returns
returns c = λ terms. record {
  regexes = record { graph = c.new-2.ensures.graph _; plain = c.new-3.ensures _ };
  normals = c.new-4.ensures terms _;
  measures = subst (λ (ms : List Measure). AreMeasures terms ms) (sym c.new-5.ensures) (no_measures terms);
}
