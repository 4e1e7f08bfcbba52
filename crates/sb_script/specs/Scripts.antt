-- What is written for a script: for each of its entries in order, up to the one that ends the run.
use Rattle.std.specs.Prelude.{◌≡◌, ℕ, List, [], ◌∷◌, ◌++◌}
use Rattle.sb_reader.specs.Entries.{Entry}
use Rattle.sb_script.specs.Errors as error
use Rattle.sb_script.specs.Errors.{text_of}
use Rattle.sb_script.specs.Steps.{error_line}

-- The entries lead from a state to another, each by a step that writes something, and this is written for all of them
-- in order.
abbrev pub Along : {S W : Type 0} → (S → Entry → List W → S → Type 0) → S → List Entry → List W → S → Type 0
Along R s [] writes after = (writes ≡ []) × (after ≡ s)
Along {S = S} {W = W} R s (entry ∷ entries) writes after =
    (own : List W) × (rest : List W) × (next : S) × R s entry own next × (writes ≡ own ++ rest)
    × Along R next entries rest after

-- the answer to a script that ends within a form
abbrev pub unfinished_line : List ℕ
unfinished_line = error_line (text_of error.unexpected_end)
