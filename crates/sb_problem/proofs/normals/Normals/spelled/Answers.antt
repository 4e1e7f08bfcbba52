use Rattle.std.proofs.Common.{subst}
use Rattle.std.proofs.lemmas.Bool.{false≢true}
use Rattle.std.proofs.lemmas.Result.{IfOk-from_err}
use Rattle.sb_regex.proofs.CallerLemmas.{extends_same}
use Rattle.sb_term.specs.Numbered.{term_at}
use Rattle.sb_problem.specs.declared.normals.Known.TheVariants as known
use Rattle.sb_problem.specs.Known.{IsTextBy}
use Rattle.sb_problem.proofs.Keeping.{known_inside, normals_set, normals_grown, text_at, texts}
use Rattle.sb_problem.proofs.normals.Normals.spelled.Goals as goal

pub returns-in_default : goal.returns-in_default
returns-in_default c =
    let t = text_at c.args.table.now c.args.self.now c.args.id c.kept.result c.count.result
    (texts c.args.table.now c.args.arena.now c.args.self.now c.requires.normals) c.requires.known c.kept.ensures
    c.count.ensures in
    record {
      number = subst (IsTextBy (term_at c.args.table.now c.args.id)) c.in_default.is t;
      extends = extends_same c.args.arena.now;
      normals = c.requires.normals;
    }

pub keep-requires : goal.keep-requires
keep-requires c = known_inside c.args.self.now c.args.id c.requires.known

pub returns : goal.returns
returns c =
    let e = c.in_ok-regex.ensures in
    let found = rw c.in-Some-2.is at e.number in
    let t = text_at c.args.table.now c.args.self.now c.args.id c.kept.result c.count.result
    (texts c.args.table.now c.args.arena.now c.args.self.now c.requires.normals) c.requires.known c.kept.ensures
    c.count.ensures in
    record {
      number = found;
      extends = e.extends;
      normals = normals_set c.args.table.now c.args.arena.now c.of_word.new.arena c.args.self.now c.keep.new.self
          c.args.id (known.Spelled c.in-Some-2.regex c.in-Some.count) c.requires.normals e.extends
          (known_inside c.args.self.now c.args.id c.requires.known)
          (subst (IsTextBy (term_at c.args.table.now c.args.id)) c.in-Some.is t, found) (λ h. absurd (false≢true h))
          c.keep.ensures;
    }

pub returns-in_err-regex : goal.returns-in_err-regex
returns-in_err-regex c =
    let e = c.in_err-regex.ensures in
    record {
      number = IfOk-from_err c.from_residual.result _ c.from_residual.ensures.0;
      extends = e.extends;
      normals = normals_grown c.args.table.now c.args.arena.now c.of_word.new.arena c.args.self.now e.extends
          c.requires.normals;
    }

pub returns-in_default-2 : goal.returns-in_default-2
returns-in_default-2 c =
    let e = c.in_ok-regex.ensures in
    record {
      number = rw c.in_default-2.is at e.number;
      extends = e.extends;
      normals = normals_grown c.args.table.now c.args.arena.now c.of_word.new.arena c.args.self.now e.extends
          c.requires.normals;
    }
