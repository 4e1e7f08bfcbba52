-- Which lines count, and that each of them is new.
use Rattle.std.specs.Prelude.{◌≡◌, ◌+◌, Bool, true, false, if◌then◌else◌, None, Ok}
use Rattle.sb_lit.specs.Hints.{is_repeated}
use Rattle.sb_rulebook.specs.Lines.{Line, expansion_line, rule_line, learned_line}
use Rattle.sb_rulebook.specs.Kept.{AllKept, Asked, targets_in}
use Rattle.sb_rulebook.specs.ClauseRules.{is_counted}
use Rattle.sb_rulebook.specs.Follows.{by_rule}

abbrev pub is_counted_line : Line → Bool
is_counted_line (expansion_line r ks) = true
is_counted_line (rule_line rule clause) = is_counted rule
is_counted_line (learned_line clause ids) = true
is_counted_line _ = false

-- a line counts one, or nothing
abbrev pub LinesAreCounted : Type 0
LinesAreCounted = (asked : Asked) (kept after : AllKept) (line : Line) → by_rule asked kept line ≡ Ok after
    → after.counted ≡ (if is_counted_line line then kept.counted + 1 else kept.counted)

-- what a counted line says was not kept: no expansion of the regex, no subset of the clause
abbrev pub IsNew : AllKept → Line → Type 0
IsNew kept (expansion_line r ks) = targets_in kept.expansions r ≡ None
IsNew kept (rule_line rule clause) = is_counted rule ≡ true → is_repeated kept.clauses clause ≡ false
IsNew kept (learned_line clause ids) = is_repeated kept.clauses clause ≡ false
IsNew kept _ = Unit {0}

abbrev pub CountedIsNew : Type 0
CountedIsNew = (asked : Asked) (kept after : AllKept) (line : Line) → by_rule asked kept line ≡ Ok after
    → IsNew kept line
