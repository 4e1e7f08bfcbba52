use Rattle.std.proofs.lemmas.Result.{IfOk-from_err}
use Rattle.sb_regex.proofs.CallerLemmas.{extends_more}
use Rattle.sb_term.specs.Numbered.{term_at}
use Rattle.sb_problem.proofs.Meanings.{number_given}
use Rattle.sb_problem.proofs.normals.Normals.normal.Goals as goal

pub returns : goal.returns
returns c =
    let e = c.regex.ensures in
    record {
      number = number_given c.regex.new.arena (term_at c.args.table.now c.args.id) c.regex.result e.number;
      extends = extends_more _ _ _ c.in_ok-reach.ensures.extends e.extends;
      normals = e.normals;
    }

pub returns-in_err-reach : goal.returns-in_err-reach
returns-in_err-reach c =
    let x = c.from_residual in
    let e = c.in_err-reach.ensures in
    record {
      number = IfOk-from_err x.result _ x.ensures.0;
      extends = e.extends;
      normals = e.normals;
    }
