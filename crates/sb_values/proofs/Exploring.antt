-- What searches leave of what is known of regexes: one behind the other, or none.
use Rattle.std.proofs.Common.{◌≡◌, List, true, subst, sym}
use Rattle.sb_lang.specs.Regex.{Regex}
use Rattle.sb_regex.specs.Numbered.{Extends}
use Rattle.sb_regex.proofs.CallerLemmas.{extends_more, extends_same}
use Rattle.sb_deriv.specs.Faithful.{KeepsEntries}
use Rattle.sb_graph.specs.Findings.{Findings, IsGraph, is_marked}
use Rattle.sb_graph.specs.Laws.{GraphStays}
use Rattle.sb_values.specs.Explored.{Explores}

pub explores_none : {rs : List Regex} {g : Findings} → IsGraph rs g → Explores rs rs g g
explores_none {rs} h = record { extends = extends_same rs; graph = h; derivatives = λ n ps k. k; marks = λ n k. k }

pub explores_both : {rs more most : List Regex} {f g h : Findings} → Explores rs more f g → Explores more most g h
    → Explores rs most f h
explores_both {rs} {more} {most} a b = record {
  extends = extends_more rs more most a.extends b.extends;
  graph = b.graph;
  derivatives = λ n ps k. b.derivatives n ps (a.derivatives n ps k);
  marks = λ n k. b.marks n (a.marks n k);
}

-- where the arena alone grew
pub explores_arena : {rs more : List Regex} {g : Findings} → GraphStays → Extends rs more → IsGraph rs g
    → Explores rs more g g
explores_arena {rs} {more} {g} stays e h = record {
  extends = e;
  graph = stays rs more g e h;
  derivatives = λ n ps k. k;
  marks = λ n k. k;
}

-- where derivatives were made
pub explores_derived : {rs more : List Regex} {g h : Findings} → Extends rs more → IsGraph more h → h.dead ≡ g.dead
    → KeepsEntries g.memo h.memo → Explores rs more g h
explores_derived e graph marks kept = record {
  extends = e;
  graph = graph;
  derivatives = kept;
  marks = λ n k. subst (λ dead. is_marked dead n ≡ true) (sym marks) k;
}
