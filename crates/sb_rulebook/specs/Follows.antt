-- Which lines follow from what is kept, and what is kept behind them. Each kind of line has its rule.
use Rattle.std.specs.Prelude.{◌≡◌, if◌then◌else◌, Result, Err}
use Rattle.std.specs.Result.{result_unwrap_or}
use Rattle.sb_rulebook.specs.Refusals.{Refusal, misplaced, unknown_id, rule_broken}
use Rattle.sb_rulebook.specs.Brought.{is_brought}
use Rattle.sb_rulebook.specs.Lines.{Line, header_line, regex_line, atom_line, expansion_line, dead_line, assertion_line, rule_line, learned_line, verdict_line, end_line}
use Rattle.sb_rulebook.specs.Kept.{AllKept, Asked}
use Rattle.sb_rulebook.specs.RegexRules.{follows_regex, follows_expansion, follows_dead}
use Rattle.sb_rulebook.specs.AtomRules.{follows_atom}
use Rattle.sb_rulebook.specs.ClauseRules.{follows_assertion, follows_rule, follows_learned}

-- what is kept behind a line by the rule of its kind, or why it does not follow; the first line, verdicts and the last
-- line have places of their own
abbrev pub by_rule : Asked → AllKept → Line → Result AllKept Refusal
by_rule asked kept (regex_line node) = follows_regex kept node
by_rule asked kept (atom_line atom) = follows_atom asked kept atom
by_rule asked kept (expansion_line r ks) = follows_expansion asked kept r ks
by_rule asked kept (dead_line ids) = follows_dead kept ids
by_rule asked kept (assertion_line place l) = follows_assertion asked kept place l
by_rule asked kept (rule_line rule clause) = follows_rule asked kept rule clause
by_rule asked kept (learned_line clause ids) = follows_learned asked kept clause ids
by_rule asked kept (header_line format) = Err misplaced
by_rule asked kept (verdict_line said) = Err misplaced
by_rule asked kept end_line = Err misplaced

-- what is not brought is refused, where no number in it names nothing
abbrev pub not_brought : Result AllKept Refusal → Result AllKept Refusal
not_brought (Err unknown_id) = Err unknown_id
not_brought _ = Err rule_broken

abbrev pub follows : Asked → AllKept → Line → Result AllKept Refusal
follows asked kept line = if is_brought line then by_rule asked kept line else not_brought (by_rule asked kept line)

-- what is kept behind a line, whether it follows or not
abbrev pub kept_behind : Asked → AllKept → Line → AllKept
kept_behind asked kept line = result_unwrap_or (follows asked kept line) kept

-- A line that is refused adds nothing.
abbrev pub RefusedLineLeavesKept : Type 0
RefusedLineLeavesKept = (asked : Asked) (kept : AllKept) (line : Line) (refusal : Refusal)
    → follows asked kept line ≡ Err refusal → kept_behind asked kept line ≡ kept
