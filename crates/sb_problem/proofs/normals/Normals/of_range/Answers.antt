use Rattle.std.proofs.Common.{arith}
use Rattle.sb_regex.proofs.CallerLemmas.{extends_same}
use Rattle.sb_problem.specs.Known.{is_known}
use Rattle.sb_problem.proofs.Keeping.{all_item, known_inside, texts}
use Rattle.sb_problem.proofs.TermShapes.{two_list, range_not_two, range_first_other, range_second_other, range_found}
use Rattle.sb_problem.proofs.normals.Normals.of_range.Goals as goal
use Rattle.sb_problem.proofs.normals.Normals.of_range.Goals.{in_default-via-then-arguments-lt2, in_default-via-else-arguments-lt2+else-arguments-lt3}

pub returns-in_default : goal.returns-in_default
returns-in_default c = record {
  number = range_not_two c.args.table.now c.args.arguments.now (λ two. elim c.in_default.branch [
    | in_default-via-then-arguments-lt2 w ↦ grind arith
    | in_default-via-else-arguments-lt2+else-arguments-lt3 w ↦ grind arith
  ]);
  extends = extends_same c.args.arena.now;
}

pub word-requires : goal.word-requires
word-requires c =
    let known = all_item (is_known c.args.self.now) c.args.arguments.now 0 c.from-item.result c.requires.known
    (omega arith) c.from-item.is in
    let inside = known_inside c.args.self.now c.from-item.result known in
    record {
      known = known;
      number = omega (arith, inside, c.requires.normals.short);
      texts = texts c.args.table.now c.args.arena.now c.args.self.now c.requires.normals;
    }

pub returns-in_default-2 : goal.returns-in_default-2
returns-in_default-2 c = record {
  number = range_first_other c.args.table.now c.args.arguments.now c.from-item.result c.to-item.result
      (two_list c.args.arguments.now c.from-item.result c.to-item.result (omega arith) (omega arith) c.from-item.is
      c.to-item.is) (rw c.in_default-2.is at c.in_ok-from.ensures);
  extends = extends_same c.args.arena.now;
}

pub word-requires-2 : goal.word-requires-2
word-requires-2 c =
    let known = all_item (is_known c.args.self.now) c.args.arguments.now 1 c.to-item.result c.requires.known
    (omega arith) c.to-item.is in
    let inside = known_inside c.args.self.now c.to-item.result known in
    record {
      known = known;
      number = omega (arith, inside, c.requires.normals.short);
      texts = texts c.args.table.now c.args.arena.now c.args.self.now c.requires.normals;
    }

pub returns-in_default-3 : goal.returns-in_default-3
returns-in_default-3 c = record {
  number = range_second_other c.args.table.now c.args.arguments.now c.from-item.result c.to-item.result
      (two_list c.args.arguments.now c.from-item.result c.to-item.result (omega arith) (omega arith) c.from-item.is
      c.to-item.is) (rw c.in_default-3.is at c.in_ok-to.ensures);
  extends = extends_same c.args.arena.now;
}

pub between-requires : goal.between-requires
between-requires c = rw c.deref-2.ensures.value (rw c.in-Some-2.is at c.in_ok-to.ensures).written

pub returns : goal.returns
returns c =
    let e = c.in_ok-between.ensures in
    record {
      number = range_found c.between.new.arena c.args.table.now c.args.arguments.now c.deref.result.now
          c.deref-2.result.now c.in-Some.from.items c.in-Some-2.to.items c.from-item.result c.to-item.result
          c.in_ok-between.field-0
          (two_list c.args.arguments.now c.from-item.result c.to-item.result (omega arith) (omega arith)
          c.from-item.is c.to-item.is)
          (rw c.in-Some.is at c.in_ok-from.ensures) (rw c.in-Some-2.is at c.in_ok-to.ensures)
          c.deref.ensures.value c.deref-2.ensures.value e.names;
      extends = e.extends;
    }
