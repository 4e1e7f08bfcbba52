-- A proof along a script: a state, and a step for each line of the proof and for each event of the script. Lines are
-- taken where a check waits for them, and behind the last check.
use Rattle.std.specs.Prelude.{ℕ, ◌+◌, Bool, true, false, ◌&&◌, nat_le, if◌then◌else◌, List, [], ◌∷◌, ◌++◌, Option, Some, None, Result, Ok, Err}
use Rattle.sb_rulebook.specs.Refusals.{Refusal, misplaced, missing_line}
use Rattle.sb_rulebook.specs.Brought.{newest_format}
use Rattle.sb_rulebook.specs.Lines.{Line, header_line, verdict_line, end_line, Said}
use Rattle.sb_rulebook.specs.Kept.{AllKept, nothing_kept, count_again, dropped_above, all_dropped}
use Rattle.sb_rulebook.specs.Follows.{follows}
use Rattle.sb_rulebook.specs.Verdicts.{Question, refusal_of}

-- what of a script a proof goes along with
pub data Event : Type 0 where
  -- the levels above this one are left
  leaves_above : ℕ → Event
  -- all assertions are left
  leaves_all : Event
  asks : Question → Event
  -- no further check comes
  ends : Event

pub data Phase : Type 0 where
  -- no line is due
  at_rest : Phase
  -- the lines of this check are due, and its verdict
  at_check : Question → Phase
  -- the last line is due
  at_end : Phase
  -- the last line has come
  behind_end : Phase
  -- the line of this number is refused
  stopped : ℕ → Refusal → Phase

-- how far a proof has come
pub record Progress : Type 0 where
  pub phase : Phase
  -- its first line has come
  pub begun : Bool
  -- the verdicts so far
  pub said : List Said
  pub kept : AllKept
  -- the number of the next line, from 1
  pub next : ℕ

abbrev pub beginning : Progress
beginning = record { phase = at_rest; begun = false; said = []; kept = nothing_kept newest_format; next = 1 }

-- An event.

abbrev pub met : Event → Progress → Progress
met (leaves_above level) p = record p { kept = dropped_above level p.kept }
met leaves_all p = record p { kept = all_dropped p.kept }
met (asks q) p = record p { phase = at_check q }
met ends p = record p { phase = at_end }

-- events come where no line is due
abbrev pub meets : Event → Progress → Progress
meets e p = elim p.phase [
  | at_rest ↦ met e p
  | at_check q ↦ p
  | at_end ↦ p
  | behind_end ↦ p
  | stopped n refusal ↦ p
]

-- A line.

abbrev pub stop : Refusal → Progress → Progress
stop refusal p = record p { phase = stopped p.next refusal }

-- the first line gives a format
abbrev pub takes_first : Line → Progress → Progress
takes_first (header_line format) p =
    if nat_le 1 format && nat_le format newest_format
    then record p { begun = true; kept = nothing_kept format; next = p.next + 1 } else stop misplaced p
takes_first _ p = stop misplaced p

-- a verdict ends a check, unless it is refused
abbrev pub takes_verdict : Said → Option Refusal → Progress → Progress
takes_verdict said None p =
    record p { phase = at_rest; said = p.said ++ said ∷ []; kept = count_again p.kept; next = p.next + 1 }
takes_verdict said (Some refusal) p = stop refusal p

-- another line adds to what is kept, unless it is refused
abbrev pub takes_kept : Result AllKept Refusal → Progress → Progress
takes_kept (Ok after) p = record p { kept = after; next = p.next + 1 }
takes_kept (Err refusal) p = stop refusal p

abbrev pub takes_at_check : Question → Line → Progress → Progress
takes_at_check q (verdict_line said) p = takes_verdict said (refusal_of q p.kept said) p
takes_at_check q line p = takes_kept (follows q.asked p.kept line) p

abbrev pub takes_last : Line → Progress → Progress
takes_last end_line p = record p { phase = behind_end; next = p.next + 1 }
takes_last _ p = stop misplaced p

-- a line that is due
abbrev pub takes_in : Phase → Line → Progress → Progress
takes_in at_rest line p = p
takes_in (at_check q) line p = if p.begun then takes_at_check q line p else takes_first line p
takes_in at_end line p = if p.begun then takes_last line p else takes_first line p
takes_in behind_end line p = stop misplaced p
takes_in (stopped n refusal) line p = p

abbrev pub take_line : Line → Progress → Progress
take_line line p = takes_in p.phase line p

-- A script. What is taken may be lines, or texts that are read as lines.

-- all of these, one behind the other
abbrev pub takes_each : {A : Type 0} → (A → Progress → Progress) → List A → Progress → Progress
takes_each take [] p = p
takes_each take (x ∷ xs) p = takes_each take xs (take x p)

abbrev pub is_at_check : Phase → Bool
is_at_check (at_check q) = true
is_at_check _ = false

-- where a check waits it takes its lines; with those that are left
abbrev pub goes_through : {A : Type 0} → (A → Progress → Progress) → Progress → List A → Progress × List A
goes_through take p [] = (p, [])
goes_through take p (x ∷ xs) = if is_at_check p.phase then goes_through take (take x p) xs else (p, x ∷ xs)

-- the events of a script, each with the lines that are due then; with those that are left
abbrev pub goes_along : {A : Type 0} → (A → Progress → Progress) → Progress → List Event → List A
    → Progress × List A
goes_along take p [] xs = (p, xs)
goes_along take p (e ∷ es) xs = let r = goes_through take (meets e p) xs in goes_along take r.0 es r.1

-- all events of a script and all lines of a proof
abbrev pub goes_along_all : {A : Type 0} → (A → Progress → Progress) → Progress → List Event → List A → Progress
goes_along_all take p es xs = let r = goes_along take p (es ++ ends ∷ []) xs in takes_each take r.1 r.0

-- What becomes of a proof.

-- with the verdicts of the checks that were answered
pub data Outcome : Type 0 where
  accepted : List Said → Outcome
  refused : List Said → ℕ → Refusal → Outcome
  -- no line was refused so far, and more may come
  goes_on : List Said → Outcome

abbrev pub outcome_in : Phase → List Said → Outcome
outcome_in at_rest said = goes_on said
outcome_in (at_check q) said = goes_on said
outcome_in at_end said = goes_on said
outcome_in behind_end said = accepted said
outcome_in (stopped n refusal) said = refused said n refusal

abbrev pub outcome_of : Progress → Outcome
outcome_of p = outcome_in p.phase p.said

-- where the proof has ended a line is missing, unless its last one has come
abbrev pub closed_in : Phase → Progress → Progress
closed_in behind_end p = p
closed_in (stopped n refusal) p = p
closed_in _ p = stop missing_line p

abbrev pub closed : Progress → Progress
closed p = closed_in p.phase p
