-- How far a script is read and answered.
use Rattle.std.specs.Prelude.{◌≡◌, ℕ, Bool, true, false, if◌then◌else◌, List, [], ◌∷◌, ◌++◌, ◌⊎◌, length, drop, IfSome}
use Rattle.sb_world.specs.Outside.{Outside}
use Rattle.sb_world.specs.Moved.{Moved, Write, moved_by, both, reading, writing_all, IsProperFront}
use Rattle.sb_world.specs.declared.InPort.TheVariants as in_port
use Rattle.sb_world.specs.declared.OutPort.TheVariants as out_port
use Rattle.sb_reader.specs.Tokens.{is_open_gap}
use Rattle.sb_reader.specs.Entries.{Entry, HoldsNoEntry, Begins}
use Rattle.sb_rulebook.specs.Judging.{Progress, beginning}
use Rattle.sb_sound.specs.Certified.{last_lines}
use Rattle.sb_script.specs.State as meaning
use Rattle.sb_script.specs.Replies.{is_exit}
use Rattle.sb_script.specs.Scripts.{Along, unfinished_line}
use Rattle.sb_session.specs.Commanding.{Stage, Answers}

-- So many bytes are read of the script, and these pieces are written.
abbrev pub work : ℕ → List Write → Moved
work count writes = both (reading in_port.Script count) (writing_all writes)

-- these bytes are the front of what was left of the script
abbrev pub IsFront : List ℕ → Outside → Type 0
IsFront bytes o = IfSome o.script_in.left (λ left. left ≡ bytes ++ drop (length bytes) left)

-- they are all that was left of it
abbrev pub IsAll : List ℕ → Outside → Type 0
IsAll bytes o = IfSome o.script_in.left (λ left. left ≡ bytes)

-- the answer to an entry behind which the run goes on, with its proof or without one
abbrev pub GoesOn : Bool → Stage → Entry → List Write → Stage → Type 0
GoesOn proved s entry writes after = (is_exit entry ≡ false) × Answers proved s entry writes after

-- where a script and its proof begin
abbrev pub beginnings : Stage
beginnings = (meaning.start, beginning)

-- what ends a proof, where one is written
abbrev pub end_writes : Bool → Progress → List Write
end_writes true p = (out_port.Proof, last_lines p) ∷ []
end_writes false p = []

-- the answer to the end of a script, which is outside a form or within one
abbrev pub unfinished_writes : Bool → List Write
unfinished_writes true = []
unfinished_writes false = (out_port.Answers, unfinished_line) ∷ []

-- The entries in front of these bytes, and what is written for them.
pub record Answered (proved : Bool) (bytes : List ℕ) (ended : Bool) (entries : List Entry) (left : List ℕ)
    (writes : List Write) (s : Stage) : Type 0
  where
    pub begins : Begins ended bytes entries left
    pub along : Along (GoesOn proved) beginnings entries writes s

-- The last entry was (exit), and it is answered.
pub record UpToExit (proved : Bool) (opened : Outside) (bytes : List ℕ) (ended : Bool) (now : Outside) : Type 0 where
  pub entries : List Entry
  pub exit : Entry
  pub left : List ℕ
  pub writes : List Write
  pub s : Stage
  pub own : List Write
  pub after : Stage
  pub begins : Begins ended bytes (entries ++ exit ∷ []) left
  pub along : Along (GoesOn proved) beginnings entries writes s
  pub is_exit : is_exit exit ≡ true
  pub answers : Answers proved s exit own after
  pub outside : now ≡ moved_by (work (length bytes) (writes ++ own)) opened

-- all whole entries are answered
pub record AllAnswered (proved : Bool) (opened : Outside) (bytes : List ℕ) (ended : Bool) (left : List ℕ)
    (now : Outside) : Type 0 where
  pub entries : List Entry
  pub writes : List Write
  pub s : Stage
  pub answered : Answered proved bytes ended entries left writes s
  pub none : HoldsNoEntry ended left
  pub outside : now ≡ moved_by (work (length bytes) writes) opened

-- What may come next: an answer to the next entry, and behind (exit) the end of the proof.
pub record NextAnswer (proved : Bool) (bytes : List ℕ) (ended : Bool) (entries : List Entry) (s : Stage)
    (own : List Write) : Type 0
  where
    pub next : Entry
    pub behind : List ℕ
    pub after : Stage
    pub answer : List Write
    pub begins : Begins ended bytes (entries ++ next ∷ []) behind
    pub answers : Answers proved s next answer after
    pub all : own ≡ answer ++ (if is_exit next then end_writes proved after.1 else [])

-- Or an answer to the end of a script that ends within a form, and the end of the proof.
abbrev pub ComesNext : Bool → List ℕ → Bool → List Entry → List ℕ → Stage → List Write → Type 0
ComesNext proved bytes ended entries left s own =
    NextAnswer proved bytes ended entries s own
    ⊎ ((ended ≡ true) × HoldsNoEntry true left × (own ≡ unfinished_writes (is_open_gap left) ++ end_writes proved s.1))

-- Less than all of what comes next is written.
pub record CutAnswer (proved : Bool) (opened : Outside) (bytes : List ℕ) (ended : Bool) (now : Outside) : Type 0 where
  pub entries : List Entry
  pub left : List ℕ
  pub writes : List Write
  pub s : Stage
  pub answered : Answered proved bytes ended entries left writes s
  pub own : List Write
  pub next : ComesNext proved bytes ended entries left s own
  pub front : List Write
  pub proper : IsProperFront front own
  pub outside : now ≡ moved_by (work (length bytes) (writes ++ front)) opened

-- Whole answers are written, to some of the entries in front.
pub record CutBetween (proved : Bool) (opened : Outside) (bytes : List ℕ) (ended : Bool) (now : Outside) : Type 0 where
  pub entries : List Entry
  pub left : List ℕ
  pub writes : List Write
  pub s : Stage
  pub answered : Answered proved bytes ended entries left writes s
  pub outside : now ≡ moved_by (work (length bytes) writes) opened

abbrev pub Cut : Bool → Outside → List ℕ → Bool → Outside → Type 0
Cut proved opened bytes ended now = CutBetween proved opened bytes ended now ⊎ CutAnswer proved opened bytes ended now
