-- The refusals of the rules of proofs, and what an answer to a line of regexes says of what these make of it.
use Rattle.std.specs.Prelude.{◌≡◌, Result, Ok, Err}
use Rattle.sb_rulebook.specs.Refusals as rules
use Rattle.sb_rulebook.specs.Kept.{AllKept}
use Rattle.sb_rules.specs.declared.fault.Refusal.{Refusal}
use Rattle.sb_rules.specs.declared.fault.Refusal.TheVariants as refusal
use Rattle.sb_rules.specs.declared.fault.Fault.{Fault}
use Rattle.sb_rules.specs.declared.fault.Fault.TheVariants as fault

abbrev pub refusal_in : Refusal → rules.Refusal
refusal_in refusal.Misplaced = rules.misplaced
refusal_in refusal.UnknownId = rules.unknown_id
refusal_in refusal.Repeated = rules.repeated
refusal_in refusal.NotNormal = rules.not_normal
refusal_in refusal.WrongTarget = rules.wrong_target
refusal_in refusal.HoldsEmptyWord = rules.holds_empty_word
refusal_in refusal.NotClosed = rules.not_closed
refusal_in refusal.HintIdle = rules.hint_idle
refusal_in refusal.RuleBroken = rules.rule_broken
refusal_in refusal.WrongVerdict = rules.wrong_verdict

-- A line that is taken follows, and this is kept behind it; a refusal is that of the rules. Want of memory says
-- nothing.
abbrev pub IsJudged : {A : Type 0} → Result A Fault → AllKept → Result AllKept rules.Refusal → Type 0
IsJudged (Ok done) after ruled = ruled ≡ Ok after
IsJudged (Err (fault.Refused refusal)) after ruled = ruled ≡ Err (refusal_in refusal)
IsJudged (Err fault.NoMemory) after ruled = Unit {0}
