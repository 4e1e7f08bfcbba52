-- What a judgement of a learned clause says.
use Rattle.std.specs.Prelude.{◌≡◌, ℕ, Result, Ok, Err}
use Rattle.sb_lit.specs.Hints.{Unlearned, unknown_hint, repeated_clause, idle_hint, not_by_hints}
use Rattle.sb_hints.specs.declared.judge.NotLearned.{NotLearned}
use Rattle.sb_hints.specs.declared.judge.NotLearned.TheVariants.{UnknownHint, Repeated, IdleHint, NotByHints, NoMemory}

-- the judgement is this answer, and want of memory says nothing
abbrev pub IsJudged : Result ℕ Unlearned → Result ℕ NotLearned → Type 0
IsJudged answer (Ok level) = answer ≡ Ok level
IsJudged answer (Err UnknownHint) = answer ≡ Err unknown_hint
IsJudged answer (Err Repeated) = answer ≡ Err repeated_clause
IsJudged answer (Err IdleHint) = answer ≡ Err idle_hint
IsJudged answer (Err NotByHints) = answer ≡ Err not_by_hints
IsJudged answer (Err NoMemory) = Unit {0}
