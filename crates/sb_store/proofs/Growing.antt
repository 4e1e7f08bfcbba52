-- Why the laws of growth hold.
use Rattle.std.proofs.Common.{List, refl, subst, sym}
use Rattle.sb_graph.specs.Laws.{GraphStays}
use Rattle.sb_plain.specs.Memory.{RightStays}
use Rattle.sb_problem.specs.Known.{AreNormals}
use Rattle.sb_problem.specs.Laws.{NormalsStay}
use Rattle.sb_problem.specs.declared.normals.Known.{Known}
use Rattle.sb_fragment.specs.Measures.{AreMeasures}
use Rattle.sb_fragment.specs.declared.measure.Measure.{Measure}
use Rattle.sb_term.proofs.CallerLemmas.{extends_same}
use Rattle.sb_store.specs.Stores.{ArenaGrows, RegexesGrow, RegexesGrowAlone}

pub arena_grows : GraphStays → RightStays → ArenaGrows
arena_grows graph plain = λ x y e is.
    subst (RegexesGrow x) (sym is) (record {
      more = record { extends = e; derivatives = λ n pieces h. h; marks = λ n h. h };
      right = λ h. record {
        graph = graph x.arena y.arena x.graph e h.graph;
        plain = plain x.arena y.arena x.plain e h.plain;
      };
      normals = refl;
      measures = refl;
    })

pub grows_alone : NormalsStay → RegexesGrowAlone
grows_alone normals = λ ts x y g. record {
  more = g.more;
  right = λ h. record {
    regexes = g.right h.regexes;
    normals = subst (λ (ks : List Known). AreNormals ts y.arena ks) (sym g.normals)
        (normals ts ts x.arena y.arena x.normals (extends_same ts) g.more.extends h.normals);
    measures = subst (λ (ms : List Measure). AreMeasures ts ms) (sym g.measures) h.measures;
  };
}
