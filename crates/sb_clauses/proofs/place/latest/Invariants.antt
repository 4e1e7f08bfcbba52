use Rattle.std.proofs.Common.{◌≡◌, take, true}
use Rattle.std.specs.List.{list_all}
use Rattle.std.specs.Option.{MatchOption}
use Rattle.sb_clauses.specs.Waiting.{is_the, IsOther}
use Rattle.sb_clauses.proofs.place.latest.Given as goal

abbrev pub invariant-loop-place : goal.invariant-loop-place
invariant-loop-place l =
    MatchOption l.best (list_all (is_the l.avoided) (take l.place l.clause) ≡ true) (IsOther l.clause l.avoided)
