use Rattle.std.proofs.Common.{◌≡◌, length, ap, ◌∙◌, arith}
use Rattle.sb_regex.proofs.CallerLemmas.{extends_same}
use Rattle.sb_term.specs.Numbered.{term_at}
use Rattle.sb_problem.specs.Known.{is_known}
use Rattle.sb_problem.specs.Words.{up_to_limit}
use Rattle.sb_problem.proofs.Keeping.{applied_at, arguments_pass, known_of_applied, knows_same}
use Rattle.sb_problem.proofs.TermShapes.{other_known, word_known}
use Rattle.sb_problem.proofs.normals.Normals.learn.Goals as goal

pub returns-in-Word : goal.returns-in-Word
returns-in-Word c =
    let same : c.len.result ≡ length c.in-Word.codes.items = omega (arith, c.len.ensures, c.in-Word.codes.ok.0) in
    record {
      is = word_known c.args.arena.now c.args.table.now c.term.result.now c.in-Word.codes c.args.id c.capped.result
          c.term.ensures.value c.in-Word.is (c.capped.ensures ∙ ap up_to_limit same);
      extends = extends_same c.args.arena.now;
      normals = c.requires.normals;
      more = knows_same c.args.self.now;
    }

pub returns-in_default : goal.returns-in_default
returns-in_default c = record {
  is = other_known c.args.arena.now c.args.table.now c.term.result.now c.args.id c.term.ensures.value
      c.in_default.not-Word c.in_default.not-Apply;
  extends = extends_same c.args.arena.now;
  normals = c.requires.normals;
  more = knows_same c.args.self.now;
}

pub applied-requires : goal.applied-requires
applied-requires c = record {
  known = arguments_pass c.args.table.now (is_known c.args.self.now) c.term.result.now c.in-Apply.symbol
      c.in-Apply.arguments c.as_slice.result.now c.args.id c.requires.parts c.term.ensures.value c.in-Apply.is
      c.as_slice.ensures c.term.ensures.arguments;
  normals = c.requires.normals;
}

pub returns-in-Apply : goal.returns-in-Apply
returns-in-Apply c =
    let e = c.applied.ensures in
    record {
      is = known_of_applied c.applied.new.arena (term_at c.args.table.now c.args.id) _ c.applied.result
          (applied_at c.args.table.now c.term.result.now c.in-Apply.symbol c.in-Apply.arguments
          c.as_slice.result.now c.args.id c.term.ensures.value c.in-Apply.is c.as_slice.ensures)
          e.is;
      extends = e.extends;
      normals = e.normals;
      more = e.more;
    }
