use Rattle.sb_check.proofs.judge.Judge.take_first.Goals as goal

pub returns-in-Header-clause-err : goal.returns-in-Header-clause-err
returns-in-Header-clause-err c = rw c.in-Header.is c.begin.ensures.err
