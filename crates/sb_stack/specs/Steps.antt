-- What the answers of the code say.
use Rattle.std.specs.Prelude.{◌≡◌, ℕ, List, Option, Some, None, Result, Ok, Err}
use Rattle.sb_reader.specs.declared.feed.Next.{Next}
use Rattle.sb_reader.specs.declared.feed.Next.TheVariants as next
use Rattle.sb_reader.specs.declared.feed.Refusal.TheVariants.{BareToken}
use Rattle.sb_reader.specs.Forms.{form_of}
use Rattle.sb_reader.specs.Entries as entries
use Rattle.sb_meaning.specs.Terms.{Sort}
use Rattle.sb_script.specs.State.{State, Assumption}
use Rattle.sb_term.specs.declared.assertion.Assertion.{Assertion}
use Rattle.sb_script.specs.Steps as meaning
use Rattle.sb_script.specs.Verdicts as finding
use Rattle.sb_stack.specs.declared.stack.Step.{Step}
use Rattle.sb_stack.specs.declared.stack.Step.TheVariants as code
use Rattle.sb_stack.specs.declared.verdict.Verdict.{Verdict}
use Rattle.sb_stack.specs.declared.verdict.Verdict.TheVariants as verdict
use Rattle.sb_stack.specs.declared.stack.Mode.TheVariants as mode
use Rattle.sb_stack.specs.Stacked.{Stacked, values_at, IsLonger}

-- what comes next is an entry
abbrev pub IsEntry : Next → Type 0
IsEntry (next.Command form) = Unit {0}
IsEntry (next.Refused refusal) = Unit {0}
IsEntry next.NotYet = ⊥
IsEntry (next.Ended ending) = ⊥

-- the entry; what is none is taken as a token outside a form
abbrev pub entry_of : Next → entries.Entry
entry_of (next.Command form) = entries.Command (form_of form)
entry_of (next.Refused refusal) = entries.Refused refusal
entry_of next.NotYet = entries.Refused BareToken
entry_of (next.Ended ending) = entries.Refused BareToken

-- the verdict, where these are the live constants
abbrev pub verdict_in : List (ℕ × Sort) → Verdict → finding.Verdict
verdict_in constants (verdict.Sat words truths) = finding.is_sat (values_at constants words.items truths.items)
verdict_in constants (verdict.Unsat assumptions) = finding.is_unsat assumptions.items
verdict_in constants verdict.Unknown = finding.is_unknown
verdict_in constants verdict.Outside = finding.is_outside

-- what is kept after a verdict: the words and truth values of the last one that had some, and the assumptions
abbrev pub found : Verdict → Stacked → Stacked
found (verdict.Sat words truths) kept =
    record kept { mode = mode.Sat; words = words.items; truths = truths.items }
found (verdict.Unsat assumptions) kept = record kept { mode = mode.Unsat; unsat_assumptions = assumptions.items }
found verdict.Unknown kept = record kept { mode = mode.Unknown }
found verdict.Outside kept = record kept { mode = mode.Plain }

-- what is left of the assertions: those of levels above this one, or all
abbrev pub leaving_in : Option ℕ → meaning.Leaving
leaving_in (Some level) = meaning.above level
leaving_in None = meaning.all

-- The step that the definitions have is taken. A check and an exit leave the state.
abbrev pub IsStep : meaning.Step → Step → State → State → Type 0
IsStep (meaning.leaves what bytes s) (code.Left text level) old new =
    (text.items ≡ bytes) × ((what ≡ leaving_in level) × (new ≡ s))
IsStep (meaning.answers bytes s) (code.Answer text) old new = (text.items ≡ bytes) × (new ≡ s)
IsStep (meaning.checks given) code.Check old new = new ≡ old
IsStep (meaning.exits bytes) (code.Exit text) old new = (text.items ≡ bytes) × (new ≡ old)
IsStep _ _ old new = ⊥

-- a check is under these assumptions
abbrev pub IsUnder : meaning.Step → Step → List Assumption → Type 0
IsUnder is (code.Left text level) given = Unit {0}
IsUnder is (code.Answer text) given = Unit {0}
IsUnder is code.Check given = is ≡ meaning.checks given
IsUnder is (code.Exit text) given = Unit {0}

-- Assertions keep their places: where levels are left the last ones go, else there are none less.
abbrev pub IsMoved : {E : Type 0} → Result Step E → List Assertion → List Assertion → Type 0
IsMoved (Ok (code.Left text level)) old new = IsLonger new old
IsMoved (Ok (code.Answer text)) old new = IsLonger old new
IsMoved (Ok code.Check) old new = IsLonger old new
IsMoved (Ok (code.Exit text)) old new = IsLonger old new
IsMoved (Err e) old new = IsLonger old new
