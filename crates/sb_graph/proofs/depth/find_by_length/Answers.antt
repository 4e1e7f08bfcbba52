use Rattle.std.proofs.lemmas.Result.{IfOk-from_err}
use Rattle.sb_graph.proofs.depth.find_by_length.Goals as goal

pub try_lengths-requires : goal.try_lengths-requires
try_lengths-requires c = record {
  known = c.requires.known;
  faithful = c.requires.faithful;
  failed = c.new-failed.ensures.empty;
  codes = c.new-codes.ensures.items;
}

pub returns-in_err-try_lengths : goal.returns-in_err-try_lengths
returns-in_err-try_lengths c =
    let e = c.in_err-try_lengths.ensures in
    record {
      found = IfOk-from_err c.from_residual.result _ c.from_residual.ensures.0;
      extends = e.extends;
      faithful = e.faithful;
      kept = e.kept;
    }

pub returns-then-branch : goal.returns-then-branch
returns-then-branch c =
    let e = c.in_ok-try_lengths.ensures in
    record { found = e.found c.if-branch.true; extends = e.extends; faithful = e.faithful; kept = e.kept }

pub returns : goal.returns
returns c =
    let e = c.in_ok-try_lengths.ensures in
    record { found = tt; extends = e.extends; faithful = e.faithful; kept = e.kept }
