use Rattle.std.proofs.Common.{refl}
use Rattle.std.proofs.lemmas.Result.{IfOk-from_err}
use Rattle.sb_meaning.specs.Terms.{apply, str_to_re, re_range, terms_of}
use Rattle.sb_regex.proofs.CallerLemmas.{extends_same}
use Rattle.sb_term.specs.Numbered.{terms_at}
use Rattle.sb_problem.proofs.Keeping.{told, texts, known_is, normals_grown, knows_same}
use Rattle.sb_problem.proofs.normals.Normals.applied.Goals as goal

pub joined_words-requires : goal.joined_words-requires
joined_words-requires c = record {
  texts = texts c.args.table.now c.args.arena.now c.args.self.now c.requires.normals;
  known = c.requires.known;
}

pub concatenated-requires : goal.concatenated-requires
concatenated-requires c = record {
  told = told c.args.table.now c.args.arena.now c.args.self.now c.requires.normals;
  known = c.requires.known;
}

pub returns-in-StrConcat : goal.returns-in-StrConcat
returns-in-StrConcat c = record {
  is = rw c.in-StrConcat.is (c.joined_words.ensures c.args.arena.now);
  extends = extends_same c.args.arena.now;
  normals = c.requires.normals;
  more = knows_same c.args.self.now;
}

pub returns-in-ReConcat : goal.returns-in-ReConcat
returns-in-ReConcat c = record {
  is = rw c.in-ReConcat.is (c.concatenated.ensures c.args.arena.now);
  extends = extends_same c.args.arena.now;
  normals = c.requires.normals;
  more = knows_same c.args.self.now;
}

pub returns-in_ok-of_one_word-in-StrToRe : goal.returns-in_ok-of_one_word-in-StrToRe
returns-in_ok-of_one_word-in-StrToRe c =
    let e = c.in_ok-of_one_word-in-StrToRe.ensures in
    record {
      is = rw (c.made.ensures, c.in-StrToRe.is)
          (known_is c.of_one_word.new.arena (apply str_to_re (terms_of (terms_at c.args.table.now c.args.ids.now)))
          c.in_ok-of_one_word-in-StrToRe.field-0 refl e.number);
      extends = e.extends;
      normals = normals_grown c.args.table.now c.args.arena.now c.of_one_word.new.arena c.args.self.now e.extends
          c.requires.normals;
      more = knows_same c.args.self.now;
    }

pub returns-in_ok-of_range-in-ReRange : goal.returns-in_ok-of_range-in-ReRange
returns-in_ok-of_range-in-ReRange c =
    let e = c.in_ok-of_range-in-ReRange.ensures in
    record {
      is = rw (c.made-in-ReRange.ensures, c.in-ReRange.is)
          (known_is c.of_range.new.arena (apply re_range (terms_of (terms_at c.args.table.now c.args.ids.now)))
          c.in_ok-of_range-in-ReRange.field-0 refl e.number);
      extends = e.extends;
      normals = normals_grown c.args.table.now c.args.arena.now c.of_range.new.arena c.args.self.now e.extends
          c.requires.normals;
      more = knows_same c.args.self.now;
    }

pub returns-in_err-of_one_word-in-StrToRe : goal.returns-in_err-of_one_word-in-StrToRe
returns-in_err-of_one_word-in-StrToRe c =
    let x = c.from_residual in
    let e = c.in_err-of_one_word-in-StrToRe.ensures in
    record {
      is = IfOk-from_err x.result _ x.ensures.0;
      extends = e.extends;
      normals = normals_grown c.args.table.now c.args.arena.now c.of_one_word.new.arena c.args.self.now e.extends
          c.requires.normals;
      more = knows_same c.args.self.now;
    }

pub returns-in_err-of_range-in-ReRange : goal.returns-in_err-of_range-in-ReRange
returns-in_err-of_range-in-ReRange c =
    let x = c.from_residual-in_err-of_range-in-ReRange in
    let e = c.in_err-of_range-in-ReRange.ensures in
    record {
      is = IfOk-from_err x.result _ x.ensures.0;
      extends = e.extends;
      normals = normals_grown c.args.table.now c.args.arena.now c.of_range.new.arena c.args.self.now e.extends
          c.requires.normals;
      more = knows_same c.args.self.now;
    }
