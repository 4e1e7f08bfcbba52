-- Stores that grow, and which part of one.
use Rattle.std.specs.Prelude.{List}
use Rattle.std.proofs.Common.{refl, ◌∙◌}
use Rattle.sb_lang.specs.Regex.{Regex}
use Rattle.sb_meaning.specs.Terms.{Term}
use Rattle.sb_term.specs.Numbered as table
use Rattle.sb_regex.specs.Numbered.{Extends}
use Rattle.sb_regex.proofs.CallerLemmas.{extends_same, extends_more}
use Rattle.sb_deriv.specs.Faithful.{KeepsEntries}
use Rattle.sb_graph.specs.Findings.{Findings, IsGraph, KeepsMarks}
use Rattle.sb_plain.specs.Memory.{Memory, IsRight}
use Rattle.sb_problem.specs.declared.normals.Known.{Known}
use Rattle.sb_problem.specs.Known.{AreNormals}
use Rattle.sb_problem.specs.Laws.{NormalsStay}
use Rattle.sb_fragment.specs.declared.measure.Measure.{Measure}
use Rattle.sb_fragment.specs.Measures.{AreMeasures}
use Rattle.sb_fragment.proofs.CallerLemmas.{measures_kept}
use Rattle.sb_store.specs.declared.store.Store.{Store}
use Rattle.sb_store.specs.Stores.{IsStoreOf, KnowsMore, RegexesGrow, Grows, ArenaGrows}

pub more_same : (x : Store) → KnowsMore x x
more_same x = record { extends = extends_same x.arena; derivatives = λ n pieces h. h; marks = λ n h. h }

pub more_both : (x y z : Store) → KnowsMore x y → KnowsMore y z → KnowsMore x z
more_both x y z p q = record {
  extends = extends_more x.arena y.arena z.arena p.extends q.extends;
  derivatives = λ n pieces h. q.derivatives n pieces (p.derivatives n pieces h);
  marks = λ n h. q.marks n (p.marks n h);
}

pub regexes_same : (x : Store) → RegexesGrow x x
regexes_same x = record {
  more = more_same x;
  right = λ h. h;
  normals = refl;
  measures = refl;
}

pub regexes_both : (x y z : Store) → RegexesGrow x y → RegexesGrow y z → RegexesGrow x z
regexes_both x y z p q = record {
  more = more_both x y z p.more q.more;
  right = λ h. q.right (p.right h);
  normals = q.normals ∙ p.normals;
  measures = q.measures ∙ p.measures;
}

pub grows_same : (ts : List Term) (x : Store) → Grows ts x x
grows_same ts x = record { more = more_same x; right = λ h. h }

pub grows_both : (ts : List Term) (x y z : Store) → Grows ts x y → Grows ts y z → Grows ts x z
grows_both ts x y z p q = record { more = more_both x y z p.more q.more; right = λ h. q.right (p.right h) }

-- Regexes are added, and more is known: what was explored of them,

pub explored : ArenaGrows → (x : Store) (rs : List Regex) (g : Findings) → Extends x.arena rs → IsGraph rs g
    → KeepsEntries x.graph.memo g.memo → KeepsMarks x.graph.dead g.dead
    → RegexesGrow x (record x { arena = rs; graph = g })
explored law x rs g e graph entries marks = record {
  more = record { extends = e; derivatives = entries; marks = marks };
  right = λ h. record { graph = graph; plain = ((law x (record x { arena = rs }) e refl).right h).plain };
  normals = refl;
  measures = refl;
}

-- what is remembered of walks along words,

pub walked : ArenaGrows → (x : Store) (rs : List Regex) (p : Memory) → Extends x.arena rs → IsRight rs p
    → RegexesGrow x (record x { arena = rs; plain = p })
walked law x rs p e plain = record {
  more = record { extends = e; derivatives = λ n pieces h. h; marks = λ n h. h };
  right = λ h. record { graph = ((law x (record x { arena = rs }) e refl).right h).graph; plain = plain };
  normals = refl;
  measures = refl;
}

-- and what is known of terms.

pub termed : ArenaGrows → (ts : List Term) (x : Store) (rs : List Regex) (ks : List Known) (ms : List Measure)
    → Extends x.arena rs → (IsStoreOf ts x → AreNormals ts rs ks × AreMeasures ts ms)
    → Grows ts x (record x { arena = rs; normals = ks; measures = ms })
termed law ts x rs ks ms e known = record {
  more = record { extends = e; derivatives = λ n pieces h. h; marks = λ n h. h };
  right = λ h.
      let r = (law x (record x { arena = rs }) e refl).right h.regexes in
      let k = known h in
      record {
        regexes = record { graph = r.graph; plain = r.plain };
        normals = k.0;
        measures = k.1;
      };
}

pub normalized : ArenaGrows → (ts : List Term) (x : Store) (rs : List Regex) (ks : List Known) → Extends x.arena rs
    → AreNormals ts rs ks → Grows ts x (record x { arena = rs; normals = ks })
normalized law ts x rs ks e normals = termed law ts x rs ks x.measures e (λ h. (normals, h.measures))

pub measured : (ts : List Term) (x : Store) (ms : List Measure) → AreMeasures ts ms
    → Grows ts x (record x { measures = ms })
measured ts x ms measures = record {
  more = record { extends = extends_same x.arena; derivatives = λ n pieces h. h; marks = λ n h. h };
  right = λ h. record {
    regexes = record { graph = h.regexes.graph; plain = h.regexes.plain };
    normals = h.normals;
    measures = measures;
  };
}

-- Terms are added.

pub more_terms : NormalsStay → (old new : List Term) (x : Store) → table.Extends old new → IsStoreOf old x
    → IsStoreOf new x
more_terms stays old new x e h = record {
  regexes = h.regexes;
  normals = stays old new x.arena x.arena x.normals e (extends_same x.arena) h.normals;
  measures = measures_kept old new x.measures e h.measures;
}
