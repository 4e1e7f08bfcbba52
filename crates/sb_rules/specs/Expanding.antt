-- Private: the line of an expansion, up to its count.
use Rattle.std.specs.Prelude.{◌≡◌, ℕ, List, map, Result, Ok, Err}
use Rattle.sb_proof.specs.declared.line.Class.{Class}
use Rattle.sb_proof.specs.Lines.{class_in}
use Rattle.sb_rules.specs.declared.fault.Fault.{Fault}
use Rattle.sb_rulebook.specs.Lines.{expansion_line}
use Rattle.sb_rulebook.specs.Kept.{AllKept, Asked, counting, with_expansion}
use Rattle.sb_rulebook.specs.Follows.{follows}
use Rattle.sb_rules.specs.declared.kept.Kept.{Kept}
use Rattle.sb_rules.specs.Kept.{kept_in}
use Rattle.sb_rules.specs.Judged.{Meets}

-- the line follows where it may be counted; or it is refused
abbrev pub JudgesExpansion : {A : Type 0} → Result A Fault → Asked → Kept → Kept → ℕ → List Class → Type 0
JudgesExpansion (Ok done) asked old new number ks = (others : AllKept)
    → (follows asked (kept_in old others) (expansion_line number (map class_in ks))
    ≡ counting asked (with_expansion number (map (λ k. k.target) ks) (kept_in new others)))
    × (kept_in new others ≡ kept_in old others)
JudgesExpansion (Err e) asked old new number ks = (others : AllKept)
    → Meets {A = Unit {0}} (Err e) (follows asked (kept_in old others) (expansion_line number (map class_in ks))) old new
    others
