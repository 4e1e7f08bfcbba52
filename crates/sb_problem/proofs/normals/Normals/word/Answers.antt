use Rattle.sb_term.specs.Numbered.{term_at}
use Rattle.sb_problem.proofs.Keeping.{text_at, no_count, some_count}
use Rattle.sb_problem.proofs.normals.Normals.word.Goals as goal

pub returns-then-is_none : goal.returns-then-is_none
returns-then-is_none c =
    no_count (term_at c.args.table.now c.args.id) c.count.result c.is_none.result
    (text_at c.args.table.now c.args.self.now c.args.id c.kept.result c.count.result c.requires.texts c.requires.known
    c.kept.ensures c.count.ensures) c.is_none.ensures c.if-is_none.true

pub letters-requires : goal.letters-requires
letters-requires c = record {
  number = c.requires.number;
  texts = c.requires.texts;
  text = some_count (term_at c.args.table.now c.args.id) c.count.result c.is_none.result
      (text_at c.args.table.now c.args.self.now c.args.id c.kept.result c.count.result c.requires.texts
      c.requires.known c.kept.ensures c.count.ensures) c.is_none.ensures c.if-is_none.false;
}

pub returns : goal.returns
returns c = record {
  kind = some_count (term_at c.args.table.now c.args.id) c.count.result c.is_none.result
      (text_at c.args.table.now c.args.self.now c.args.id c.kept.result c.count.result c.requires.texts
      c.requires.known c.kept.ensures c.count.ensures) c.is_none.ensures c.if-is_none.false;
  are = c.in_ok-letters.ensures.is;
  written = c.in_ok-letters.ensures.written;
}
