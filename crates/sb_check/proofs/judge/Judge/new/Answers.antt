use Rattle.std.proofs.Common.{refl, sym}
use Rattle.sb_rulebook.specs.Kept.{nothing_kept}
use Rattle.sb_check.proofs.judge.Judge.new.Goals as goal

pub returns-clause-standing : goal.returns-clause-standing
returns-clause-standing c = record {
  over = c.new-2.ensures.over c.new.result.table;
  models = c.new-3.ensures c.new.result;
  fresh = λ waits format. c.new-2.ensures.kept format;
}

pub returns-clause-at : goal.returns-clause-at
returns-clause-at c = record {
  is = refl;
  begun = refl;
  next = refl;
  others = nothing_kept 1;
  format = refl;
  kept = sym (c.new-2.ensures.kept 1);
}
