use Rattle.std.proofs.lemmas.Result.{IfOk-from_err}
use Rattle.sb_regex.proofs.CallerLemmas.{extends_more}
use Rattle.sb_term.specs.Numbered.{term_at}
use Rattle.sb_problem.specs.Patterns.{literal_of}
use Rattle.sb_problem.proofs.Meanings.{number_of}
use Rattle.sb_problem.proofs.normals.Normals.pattern.Goals as goal

pub returns-in_ok-found-in-Word : goal.returns-in_ok-found-in-Word
returns-in_ok-found-in-Word c =
    let e = c.in_ok-found-in-Word.ensures in
    record {
      number = rw c.in-Word.is
          (number_of c.spelled.new.arena (literal_of (term_at c.args.table.now c.in-Word.id))
          c.in_ok-found-in-Word.found e.number);
      extends = extends_more _ _ _ c.in_ok-reach-in-Word.ensures.extends e.extends;
      normals = e.normals;
    }

pub returns-in_err-found-in-Word : goal.returns-in_err-found-in-Word
returns-in_err-found-in-Word c =
    let x = c.from_residual-in_err-found-in-Word in
    let e = c.in_err-found-in-Word.ensures in
    record {
      number = IfOk-from_err x.result _ x.ensures.0;
      extends = extends_more _ _ _ c.in_ok-reach-in-Word.ensures.extends e.extends;
      normals = e.normals;
    }

pub returns-in_err-reach-in-Word : goal.returns-in_err-reach-in-Word
returns-in_err-reach-in-Word c =
    let x = c.from_residual in
    let e = c.in_err-reach-in-Word.ensures in
    record {
      number = IfOk-from_err x.result _ x.ensures.0;
      extends = e.extends;
      normals = e.normals;
    }

pub reach-requires : goal.reach-requires
reach-requires c = record { known = rw c.in-Word.is at c.requires.known; normals = c.requires.normals }

pub spelled-requires : goal.spelled-requires
spelled-requires c = record {
  known = c.in_ok-reach-in-Word.ensures.reached;
  normals = c.in_ok-reach-in-Word.ensures.normals;
}
