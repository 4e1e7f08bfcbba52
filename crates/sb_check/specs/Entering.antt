-- What becomes of an entry of the script.
use Rattle.std.specs.Prelude.{◌≡◌, List, [], ◌∷◌, Some, None}
use Rattle.sb_script.specs.State.{State}
use Rattle.sb_script.specs.Steps.{Step, Leaving}
use Rattle.sb_rulebook.specs.Judging.{Event, asks, at_rest, Progress, meets}
use Rattle.sb_rulebook.specs.Accepted.{event_of_leaving, events_of, state_behind}
use Rattle.sb_stack.specs.Stacked.{Stacked, state_of, question_of}
use Rattle.sb_check.specs.declared.entry.Entered.{Entered}
use Rattle.sb_check.specs.declared.entry.Entered.TheVariants as entered
use Rattle.sb_check.specs.declared.judge.Judge.{Judge}
use Rattle.sb_check.specs.Standing.{IsAt}

-- A step has the events that it says, and leads to the new state; where the script ends there is none. A check has the
-- assumptions that the stack has then.
abbrev pub Enters : Entered → Step → State → Stacked → Type 0
Enters entered.Goes step old new = (events_of step old ≡ []) × (state_behind step old ≡ Some (state_of new))
Enters entered.Left step old new = (what : Leaving)
    × ((events_of step old ≡ event_of_leaving what ∷ []) × (state_behind step old ≡ Some (state_of new)))
Enters entered.Waits step old new =
    (events_of step old ≡ asks (question_of new) ∷ []) × (state_behind step old ≡ Some (state_of new))
Enters entered.Ends step old new = (events_of step old ≡ []) × (state_behind step old ≡ None)

-- the proof behind these events
abbrev pub behind : List Event → Progress → Progress
behind [] p = p
behind (e ∷ es) p = behind es (meets e p)

-- Only the script's state is another one. Where levels were left the proof has come behind the events, wherever it stood
-- at rest.
abbrev pub Keeps : Entered → List Event → Judge → Judge → Type 0
Keeps entered.Goes es old new = new ≡ record old { stack = new.stack }
Keeps entered.Left es old new = (p : Progress) → IsAt at_rest old p → IsAt at_rest new (behind es p)
Keeps entered.Waits es old new = new ≡ record old { stack = new.stack }
Keeps entered.Ends es old new = new ≡ record old { stack = new.stack }
