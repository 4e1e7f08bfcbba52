use Rattle.std.proofs.Common.{arith}
use Rattle.sb_regex.proofs.CallerLemmas.{extends_same}
use Rattle.sb_problem.specs.Known.{is_known}
use Rattle.sb_problem.proofs.Keeping.{all_item}
use Rattle.sb_problem.proofs.TermShapes.{one_list, word_not_one, word_of_one}
use Rattle.sb_problem.proofs.normals.Normals.of_one_word.Goals as goal
use Rattle.sb_problem.proofs.normals.Normals.of_one_word.Goals.{in_default-via-then-arguments-lt1, in_default-via-else-arguments-lt1+else-arguments-lt2}

pub returns-in_default : goal.returns-in_default
returns-in_default c = record {
  number = word_not_one c.args.table.now c.args.arguments.now (λ one. elim c.in_default.branch [
    | in_default-via-then-arguments-lt1 w ↦ grind arith
    | in_default-via-else-arguments-lt1+else-arguments-lt2 w ↦ grind arith
  ]);
  extends = extends_same c.args.arena.now;
}

pub of_word-requires : goal.of_word-requires
of_word-requires c = record {
  known = all_item (is_known c.args.self.now) c.args.arguments.now 0 c.argument-item.result c.requires.known
      (omega arith) c.argument-item.is;
  normals = c.requires.normals;
}

pub returns : goal.returns
returns c = record {
  number = word_of_one c.of_word.new.arena c.args.table.now c.args.arguments.now c.argument-item.result
      c.of_word.result (one_list c.args.arguments.now c.argument-item.result (omega arith) (omega arith)
      c.argument-item.is) c.of_word.ensures.number;
  extends = c.of_word.ensures.extends;
}
