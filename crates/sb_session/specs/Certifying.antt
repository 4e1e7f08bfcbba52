-- What is promised of the proof that a run writes.
use Rattle.std.specs.Prelude.{◌≡◌, ℕ, Bool, true, List, [], ◌∷◌, ◌++◌, ◌⊎◌, option_map}
use Rattle.sb_world.specs.Outside.{Outside}
use Rattle.sb_reader.specs.Entries.{Entry, HoldsNoEntry, Begins}
use Rattle.sb_script.specs.Replies.{is_exit}
use Rattle.sb_rulebook.specs.Printed.{IsPrintedProof}
use Rattle.sb_session.specs.Reading.{IsFront, IsAll}
use Rattle.sb_session.specs.Replying.{Asked}
use Rattle.sb_session.specs.Solve.{opened}

-- All entries of the script stand in front of these bytes of it, up to the end or to (exit).
abbrev pub AreAllEntries : Outside → List Entry → Type 0
AreAllEntries o entries =
    ((script : List ℕ) × (left : List ℕ) × IsAll script o × Begins true script entries left × HoldsNoEntry true left)
    ⊎ ((bytes : List ℕ) × (ended : Bool) × (before : List Entry) × (exit : Entry) × (left : List ℕ)
    × IsFront bytes o × (ended ≡ true → IsAll bytes o) × Begins ended bytes entries left
    × (entries ≡ before ++ exit ∷ []) × (is_exit exit ≡ true))

-- What is written to the proof's port is an accepted proof of the script, line by line.
pub record IsCertified (asked : Asked) (old new : Outside) : Type 0 where
  pub entries : List Entry
  pub proof : List ℕ
  pub script : AreAllEntries (opened asked old) entries
  pub written : new.proof_out.written ≡ option_map (λ bytes. bytes ++ proof) (opened asked old).proof_out.written
  pub accepted : IsPrintedProof entries proof
