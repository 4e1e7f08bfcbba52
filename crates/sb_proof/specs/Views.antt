-- Private: views of fields in memory, of pairs and of triples.
use Rattle.std.specs.Prelude.{List, map}
use Rattle.sb_rulebook.specs.Lines.{Field}
use denote.Ref.{Bor}

-- the fields to which borrows point
abbrev pub texts : List (Bor Field) → List Field
texts = map (λ f. f.now)

abbrev pub on_both : {A B C D : Type 0} → (A → B) → (C → D) → A × C → B × D
on_both f g p = (f p.0, g p.1)
