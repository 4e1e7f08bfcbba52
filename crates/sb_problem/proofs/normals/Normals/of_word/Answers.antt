use Rattle.std.proofs.Common.{arith}
use Rattle.sb_regex.proofs.CallerLemmas.{extends_same}
use Rattle.sb_term.specs.Numbered.{term_at}
use Rattle.sb_problem.proofs.Keeping.{known_at, known_inside, texts}
use Rattle.sb_problem.proofs.TermShapes.{word_found}
use Rattle.sb_problem.proofs.normals.Normals.of_word.Goals as goal

pub returns-in-Spelled : goal.returns-in-Spelled
returns-in-Spelled c =
    let k = known_at c.args.table.now c.args.arena.now c.args.self.now c.args.id c.kept.result c.requires.normals
    c.requires.known c.kept.ensures in
    record {
      number = (rw c.in-Spelled.is at k).1;
      extends = extends_same c.args.arena.now;
    }

pub word-requires : goal.word-requires
word-requires c =
    let inside = known_inside c.args.self.now c.args.id c.requires.known in
    record {
      known = c.requires.known;
      number = omega (arith, inside, c.requires.normals.short);
      texts = texts c.args.table.now c.args.arena.now c.args.self.now c.requires.normals;
    }

pub returns-in_default-2 : goal.returns-in_default-2
returns-in_default-2 c = record {
  number = rw c.in_default-2.is at c.in_ok-letters.ensures;
  extends = extends_same c.args.arena.now;
}

pub characters-requires : goal.characters-requires
characters-requires c =
    rw c.deref.ensures.value (rw c.in-Some.is at c.in_ok-letters.ensures).written

pub returns : goal.returns
returns c =
    let e = c.in_ok-characters.ensures in
    record {
      number = word_found c.characters.new.self (term_at c.args.table.now c.args.id) c.in-Some.letters.items
          c.deref.result.now c.in_ok-characters.field-0 (rw c.in-Some.is at c.in_ok-letters.ensures)
          c.deref.ensures.value e.ok;
      extends = e.extends;
    }
