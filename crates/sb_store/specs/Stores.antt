-- What is known of the regexes and terms of a session: when it is right, and how it grows.
use Rattle.std.specs.Prelude.{◌≡◌, List}
use Rattle.sb_meaning.specs.Terms.{Term}
use Rattle.sb_regex.specs.Numbered.{Extends}
use Rattle.sb_deriv.specs.Faithful.{KeepsEntries}
use Rattle.sb_graph.specs.Findings.{IsGraph, KeepsMarks}
use Rattle.sb_plain.specs.Memory.{IsRight}
use Rattle.sb_problem.specs.Known.{AreNormals}
use Rattle.sb_fragment.specs.Measures.{AreMeasures}
use Rattle.sb_store.specs.declared.store.Store.{Store}

-- What is known of the arena's regexes is so.
pub record IsStore (x : Store) : Type 0 where
  pub graph : IsGraph x.arena x.graph
  pub plain : IsRight x.arena x.plain

-- And so is what is known of the terms of a table.
pub record IsStoreOf (ts : List Term) (x : Store) : Type 0 where
  pub regexes : IsStore x
  pub normals : AreNormals ts x.arena x.normals
  pub measures : AreMeasures ts x.measures

-- More regexes are known, and more of them: each keeps its number, and the derivatives that were found and the marks of
-- those without a word stay.
pub record KnowsMore (x y : Store) : Type 0 where
  pub extends : Extends x.arena y.arena
  pub derivatives : KeepsEntries x.graph.memo y.graph.memo
  pub marks : KeepsMarks x.graph.dead y.graph.dead

-- So it is, and what is known of terms is as it was.
pub record RegexesGrow (x y : Store) : Type 0 where
  pub more : KnowsMore x y
  pub right : IsStore x → IsStore y
  pub normals : y.normals ≡ x.normals
  pub measures : y.measures ≡ x.measures

-- More may be known of the terms of a table too.
pub record Grows (ts : List Term) (x y : Store) : Type 0 where
  pub more : KnowsMore x y
  pub right : IsStoreOf ts x → IsStoreOf ts y

-- Regexes are added, and nothing else is touched.
abbrev pub ArenaGrows : Type 0
ArenaGrows = (x y : Store) → Extends x.arena y.arena → y ≡ record x { arena = y.arena } → RegexesGrow x y

-- Where regexes alone grow, the store grows.
abbrev pub RegexesGrowAlone : Type 0
RegexesGrowAlone = (ts : List Term) (x y : Store) → RegexesGrow x y → Grows ts x y
