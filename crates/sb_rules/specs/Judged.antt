-- What an answer to a line says of what the rules of proofs make of it.
use Rattle.std.specs.Prelude.{◌≡◌, ◌⊎◌, ℕ, List, [], ◌∷◌, ◌++◌, Result, Ok, Err}
use Rattle.sb_rules.specs.Answers.{refusal_in}
use Rattle.sb_rules.specs.declared.fault.Fault.{Fault}
use Rattle.sb_rules.specs.declared.fault.Fault.TheVariants as fault
use Rattle.sb_rulebook.specs.Atoms.{Atom}
use Rattle.sb_rulebook.specs.Refusals.{Refusal}
use Rattle.sb_rulebook.specs.Lines.{Line}
use Rattle.sb_rulebook.specs.Kept.{AllKept, Asked, counting}
use Rattle.sb_rulebook.specs.Follows.{follows}
use Rattle.sb_rules.specs.declared.kept.Kept.{Kept}
use Rattle.sb_rules.specs.Kept.{kept_in}

-- What is kept is as before, or one atom is kept behind the others.
abbrev pub LeavesKept : AllKept → AllKept → Type 0
LeavesKept before after =
    (after ≡ before) ⊎ ((atom : Atom) × (after ≡ record before { atoms = before.atoms ++ atom ∷ [] }))

-- What is taken is kept as the rules have it, whatever clauses rest on. A refusal is theirs, and what is kept is as
-- before. Want of memory says nothing of the rules, and leaves what was kept, with one more atom at most.
abbrev pub Meets : {A : Type 0} → Result A Fault → Result AllKept Refusal → Kept → Kept → AllKept → Type 0
Meets (Ok done) ruled old new others =
    (rests : List (List ℕ)) × (ruled ≡ Ok (kept_in new (record others { rests = rests })))
Meets (Err (fault.Refused refusal)) ruled old new others =
    (ruled ≡ Err (refusal_in refusal)) × (kept_in new others ≡ kept_in old others)
Meets (Err fault.NoMemory) ruled old new others = LeavesKept (kept_in old others) (kept_in new others)

-- the same of a line
abbrev pub Judges : {A : Type 0} → Result A Fault → Asked → Kept → Kept → Line → Type 0
Judges result asked old new line = (others : AllKept) → Meets result (follows asked (kept_in old others) line) old new
    others

-- one more line may be counted, or the limit is met
abbrev pub IsCounting : Result ℕ Fault → Asked → AllKept → Type 0
IsCounting (Ok next) asked kept = counting asked kept ≡ Ok (record kept { counted = next })
IsCounting (Err (fault.Refused refusal)) asked kept = counting asked kept ≡ Err (refusal_in refusal)
IsCounting (Err fault.NoMemory) asked kept = ⊥

abbrev pub HasRoom : ℕ → ℕ → Result ℕ Fault → Type 0
HasRoom limit count result = (asked : Asked) (kept : AllKept) → asked.limit ≡ limit → kept.counted ≡ count
    → IsCounting result asked kept
