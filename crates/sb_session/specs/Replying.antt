-- What a run reads and answers, by its status. Nothing is said here of a proof, nor in what this file names: who relies
-- on the answers alone may stop here.
use Rattle.std.specs.Prelude.{◌≡◌, ℕ, ◌-◌, ◌^◌, ◌<◌, ◌≤◌, Bool, true, false, ◌==◌, if◌then◌else◌, List, [], ◌∷◌, ◌++◌, ◌⊎◌, length, Option, is_some, IfSome}
use Rattle.sb_world.specs.Outside.{Outside, open_at, read_at, write_at, source_of}
use Rattle.sb_world.specs.declared.InPort.TheVariants as in_port
use Rattle.sb_world.specs.declared.OutPort.TheVariants as out_port
use Rattle.sb_reader.specs.Tokens.{is_open_gap}
use Rattle.sb_reader.specs.Entries.{Entry, HoldsNoEntry, Begins}
use Rattle.sb_script.specs.State.{State, start}
use Rattle.sb_script.specs.Replies.{is_exit}
use Rattle.sb_script.specs.Scripts.{Along, unfinished_line}
use Rattle.sb_script.specs.Fragment.{in_fragment}
use Rattle.sb_script.specs.Verdicts.{Verdict, is_unknown, IsVerdict, Finding, Replies}
use Rattle.sb_words.specs.SolverWords.{script_of, proof_of}
use Rattle.sb_session.specs.declared.solve.SolveStatus.{SolveStatus}
use Rattle.sb_session.specs.declared.solve.SolveStatus.TheVariants.{Done, Unfinished, Usage, Fault, NoMemory, InputLimit}

-- What is asked of a run.
pub record Asked : Type 0 where
  -- the file that holds the script; without one standard input does
  pub script : Option (List ℕ)
  -- the file to which the proof goes, where one is asked for
  pub proof : Option (List ℕ)
  -- a script of so many bytes is not read to its end
  pub limit : ℕ

-- what is asked by the names of a script and of a proof
abbrev pub asked_for : Option (List ℕ) → Option (List ℕ) → ℕ → Asked
asked_for script proof limit = record { script = script; proof = proof; limit = limit }

-- what the program's words ask, where they are taken, and no more bytes than so many are to be read
abbrev pub asked_by : List (List ℕ) → ℕ → Asked
asked_by words limit = asked_for (script_of words) (proof_of words) limit

-- whether a proof is asked for
abbrev pub asks_proof : Asked → Bool
asks_proof asked = is_some asked.proof

-- These bytes were read from the front of the source, all of it where it has ended.
abbrev pub IsReadOf : Option (List ℕ) → List ℕ → Bool → Type 0
IsReadOf source bytes ended =
    IfSome source (λ all. (rest : List ℕ) × (all ≡ bytes ++ rest) × (ended ≡ true → rest ≡ []))

-- how many steps a check may have: 0 stands for 2^64 - 1
abbrev pub steps_allowed : State → ℕ
steps_allowed s = if s.options.resource_limit == 0 then 2 ^ 64 - 1 else s.options.resource_limit

-- A check may be left undecided only where a proof is written, and has as many bytes as the check may have steps: each
-- step has a line of it.
abbrev pub MayBeUndecided : Bool → Option (List ℕ) → State → Type 0
MayBeUndecided proved written s =
    (proved ≡ true) × IfSome written (λ bytes. steps_allowed s ≤ length bytes)

-- What a check may find, where a proof is written, of which this is written in the end, or none is.
abbrev pub MayFind : Bool → Option (List ℕ) → Finding
MayFind proved written s given lines is_unknown = (in_fragment s ≡ true) × MayBeUndecided proved written s
MayFind proved written s given lines v = IsVerdict s given v

-- a reply that the entry may have in this state, and the state after it
abbrev pub IsAnswered : Bool → Option (List ℕ) → State → Entry → List ℕ → State → Type 0
IsAnswered proved written s entry reply after =
    (found : Option Verdict) × Replies (MayFind proved written) s entry [] found reply after

-- such a reply to an entry behind which the run goes on
abbrev pub IsAnsweredOn : Bool → Option (List ℕ) → State → Entry → List ℕ → State → Type 0
IsAnsweredOn proved written s entry reply after =
    (is_exit entry ≡ false) × IsAnswered proved written s entry reply after

-- How far a run has come in its script: these bytes were read, and the entries in front of them have these answers. Of
-- a proof this is written in the end.
pub record Reached (proved : Bool) (written source : Option (List ℕ)) : Type 0 where
  pub bytes : List ℕ
  pub ended : Bool
  pub entries : List Entry
  pub left : List ℕ
  pub answers : List ℕ
  pub state : State
  pub read : IsReadOf source bytes ended
  pub begins : Begins ended bytes entries left
  pub along : Along (IsAnsweredOn proved written) start entries answers state

-- The next entry is whole in what was read, and may have this reply.
pub record IsNext {proved : Bool} {written source : Option (List ℕ)} (r : Reached proved written source)
    (reply : List ℕ) : Type 0
  where
    pub entry : Entry
    pub behind : List ℕ
    pub after : State
    pub begins : Begins r.ended r.bytes (r.entries ++ entry ∷ []) behind
    pub answered : IsAnswered proved written r.state entry reply after

-- The script has ended, and each of its entries is answered; it ends outside a form, or within one.
abbrev pub IsAtEnd : {proved : Bool} {written source : Option (List ℕ)} → Reached proved written source → Bool
    → Type 0
IsAtEnd r clean = (r.ended ≡ true) × HoldsNoEntry true r.left × (is_open_gap r.left ≡ clean)

-- what may be written next: a reply to the next entry, or the line for a script that ends within a form
abbrev pub ComesNext : {proved : Bool} {written source : Option (List ℕ)} → Reached proved written source → List ℕ
    → Type 0
ComesNext r whole = IsNext r whole ⊎ (IsAtEnd r false × (whole ≡ unfinished_line))

-- nothing more is written, or a front of what may come next
abbrev pub IsCut : {proved : Bool} {written source : Option (List ℕ)} → Reached proved written source → List ℕ
    → Type 0
IsCut r last =
    (last ≡ []) ⊎ ((whole : List ℕ) × (rest : List ℕ) × ComesNext r whole × (whole ≡ last ++ rest))

-- Where a run ends, by its status, and what it writes there last.
abbrev pub EndsBy : {proved : Bool} {written source : Option (List ℕ)} → SolveStatus → ℕ
    → Reached proved written source → List ℕ → Type 0
EndsBy Done limit r last =
    (IsAtEnd r true × (length r.bytes < limit) × (last ≡ []))
    ⊎ ((exit : IsNext r last) × (is_exit exit.entry ≡ true) × (length r.bytes ≤ limit))
EndsBy Unfinished limit r last = IsAtEnd r false × (length r.bytes < limit) × (last ≡ unfinished_line)
EndsBy InputLimit limit r last =
    (r.ended ≡ false) × HoldsNoEntry false r.left × (length r.bytes ≡ limit) × (last ≡ [])
EndsBy Fault limit r last = IsCut r last
EndsBy NoMemory limit r last = IsCut r last
EndsBy Usage limit r last = ⊥

-- The script is opened, so many bytes of it are read, these are written to standard output, and nothing else is touched
-- but what takes a proof.
abbrev pub IsTouched : Asked → ℕ → List ℕ → Outside → Outside → Type 0
IsTouched asked count bytes old new =
    new
    ≡ record (write_at out_port.Answers bytes (read_at in_port.Script count (open_at in_port.Script asked.script old)))
    { proof_out = new.proof_out }

-- The run comes so far, and writes the answers so far, and this last.
pub record AnswersUpTo (asked : Asked) (status : SolveStatus) (old new : Outside) : Type 0 where
  pub reached : Reached (asks_proof asked) new.proof_out.written (source_of asked.script old)
  pub last : List ℕ
  pub ends : EndsBy status asked.limit reached last
  pub touched : IsTouched asked (length reached.bytes) (reached.answers ++ last) old new

-- What a run of which this is asked answers. One that is cut short may have done nothing.
abbrev pub AnswersBy : Asked → SolveStatus → Outside → Outside → Type 0
AnswersBy asked Fault old new = (new ≡ old) ⊎ AnswersUpTo asked Fault old new
AnswersBy asked NoMemory old new = (new ≡ old) ⊎ AnswersUpTo asked NoMemory old new
AnswersBy asked status old new = AnswersUpTo asked status old new
