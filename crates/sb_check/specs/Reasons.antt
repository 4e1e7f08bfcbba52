-- Why a line is refused, as the rules of proofs have it.
use Rattle.sb_rulebook.specs.Refusals as rules
use Rattle.sb_check.specs.declared.reason.Reason.{Reason}
use Rattle.sb_check.specs.declared.reason.Reason.TheVariants as reason

abbrev pub reason_in : Reason → rules.Refusal
reason_in reason.BadWord = rules.bad_word
reason_in reason.BadNumber = rules.bad_number
reason_in reason.Unended = rules.unended
reason_in reason.Misplaced = rules.misplaced
reason_in reason.UnknownId = rules.unknown_id
reason_in reason.Repeated = rules.repeated
reason_in reason.NotNormal = rules.not_normal
reason_in reason.WrongTarget = rules.wrong_target
reason_in reason.HoldsEmptyWord = rules.holds_empty_word
reason_in reason.NotClosed = rules.not_closed
reason_in reason.HintIdle = rules.hint_idle
reason_in reason.RuleBroken = rules.rule_broken
reason_in reason.WrongVerdict = rules.wrong_verdict
reason_in reason.MissingLine = rules.missing_line
