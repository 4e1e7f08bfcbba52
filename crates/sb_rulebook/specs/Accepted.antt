-- Accepted proofs. A proof goes along with a script: it has a first line, then for each check lines that follow and
-- one verdict, then a last line.
use Rattle.std.specs.Prelude.{◌≡◌, ℕ, ◌+◌, List, [], ◌∷◌, ◌++◌, map, length, codes, decimal, Option, Some, None}
use Rattle.sb_reader.specs.Entries.{Entry}
use Rattle.sb_meaning.specs.Terms.{Term}
use Rattle.sb_script.specs.State.{State, Level, Assertion, asserted, a_mark, Assumption, constants_of}
use Rattle.sb_script.specs.State as state
use Rattle.sb_script.specs.Fragment.{in_fragment}
use Rattle.sb_script.specs.Steps.{Step, answers, leaves, checks, exits, Leaving, above, all, line}
use Rattle.sb_script.specs.Replies.{step_of}
use Rattle.sb_rulebook.specs.Refusals.{Refusal, reason}
use Rattle.sb_rulebook.specs.Lines.{Said, said_sat, said_unsat, said_unknown, said_unsupported}
use Rattle.sb_rulebook.specs.Kept.{Asked}
use Rattle.sb_rulebook.specs.Verdicts.{Question}
use Rattle.sb_rulebook.specs.Judging.{Event, leaves_above, leaves_all, asks, Outcome, accepted, refused, goes_on}
use Rattle.sb_rulebook.specs.JudgingTexts.{judged}

-- The events of a script.

abbrev pub term_of : Assertion → Option Term
term_of (asserted t) = Some t
term_of a_mark = None

abbrev pub at_level : ℕ → List Assertion → List (Option Term × ℕ)
at_level level assertions = map (λ a. (term_of a, level)) assertions

-- the live assertions with their levels: the first level is 0, and the innermost stands in front of those above it
abbrev pub live_by_level : Level → List Level → List (Option Term × ℕ)
live_by_level first [] = at_level 0 first.assertions
live_by_level first (level ∷ levels) = live_by_level first levels ++ at_level (length levels + 1) level.assertions

abbrev pub asked_in : State → Asked
asked_in s =
    record { live = live_by_level s.first s.above; sorts = s.sorts; limit = s.options.resource_limit }

abbrev pub question_in : State → List Assumption → Question
question_in s given =
    record { asked = asked_in s; constants = constants_of s; assumptions = given; inside = in_fragment s }

abbrev pub event_of_leaving : Leaving → Event
event_of_leaving (above level) = leaves_above level
event_of_leaving all = leaves_all

-- the events of a step
abbrev pub events_of : Step → State → List Event
events_of (answers text new) s = []
events_of (leaves what text new) s = event_of_leaving what ∷ []
events_of (checks given) s = asks (question_in s given) ∷ []
events_of (exits text) s = []

-- the state after a step, on whose mode no event depends; none where the run ends
abbrev pub state_behind : Step → State → Option State
state_behind (answers text new) s = Some new
state_behind (leaves what text new) s = Some new
state_behind (checks given) s = Some s
state_behind (exits text) s = None

-- the events of entries up to the one that ends the run
abbrev pub events : State → List Entry → List Event
events s [] = []
events s (entry ∷ entries) =
    let step = step_of entry s in
    events_of step s ++ elim (state_behind step s) [ Some next ↦ events next entries | None ↦ [] ]

-- The bytes are an accepted proof of the script with these entries.
abbrev pub Accepted : List Entry → List ℕ → Type 0
Accepted entries bytes = (verdicts : List Said) × (judged (events state.start entries) bytes ≡ accepted verdicts)

-- The first line of the bytes that does not follow, and why.
abbrev pub Refused : List Entry → List ℕ → ℕ → Refusal → Type 0
Refused entries bytes n refusal =
    (verdicts : List Said) × (judged (events state.start entries) bytes ≡ refused verdicts n refusal)

-- What is answered.

abbrev pub said_text : Said → List ℕ
said_text (said_sat values) = codes "sat"
said_text (said_unsat id listed) = codes "unsat"
said_text (said_unknown limit) = codes "unknown"
said_text said_unsupported = codes "unsupported"

-- a line for each verdict, by the number of its check
abbrev pub verdict_lines : ℕ → List Said → List ℕ
verdict_lines n [] = []
verdict_lines n (said ∷ rest) =
    line (codes "check " ++ (decimal n ++ (codes ": " ++ said_text said))) ++ verdict_lines (n + 1) rest

abbrev pub answer : Outcome → List ℕ
answer (accepted said) = verdict_lines 1 said ++ line (codes "accepted")
answer (refused said n refusal) =
    verdict_lines 1 said ++ line (codes "refused at line " ++ (decimal n ++ (codes ": " ++ reason refusal)))
-- so far
answer (goes_on said) = verdict_lines 1 said
