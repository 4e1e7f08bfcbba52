use Rattle.std.proofs.Common.{refl}
use Rattle.std.proofs.lemmas.Bool.{false≢true}
use Rattle.std.proofs.lemmas.Result.{IfOk-from_err}
use Rattle.sb_regex.proofs.CallerLemmas.{extends_same}
use Rattle.sb_problem.specs.declared.normals.Known.TheVariants as known
use Rattle.sb_problem.proofs.Keeping.{known_inside, known_at, normals_grown, normals_set, knows_same, knows_set, told, told_at, other_or_text}
use Rattle.sb_problem.proofs.normals.Normals.regex.Goals as goal

pub returns-in-Nothing : goal.returns-in-Nothing
returns-in-Nothing c = record {
  number = told_at c.args.table.now c.args.self.now c.args.id c.kept.result
      (told c.args.table.now c.args.arena.now c.args.self.now c.requires.normals) c.requires.known c.kept.ensures
      (other_or_text c.kept.result c.in-Nothing.is);
  extends = extends_same c.args.arena.now;
  normals = c.requires.normals;
  more = knows_same c.args.self.now;
}

pub returns-in-Made : goal.returns-in-Made
returns-in-Made c =
    let k = known_at c.args.table.now c.args.arena.now c.args.self.now c.args.id c.kept.result c.requires.normals
    c.requires.known c.kept.ensures in
    record {
      number = rw c.in-Made.is at k;
      extends = extends_same c.args.arena.now;
      normals = c.requires.normals;
      more = knows_same c.args.self.now;
    }

pub concatenation-requires : goal.concatenation-requires
concatenation-requires c =
    let k = known_at c.args.table.now c.args.arena.now c.args.self.now c.args.id c.kept.result c.requires.normals
    c.requires.known c.kept.ensures in
    record {
      known = c.requires.known;
      normals = c.requires.normals;
      kind = (rw c.in-Concatenation.is at k).kind;
    }

pub keep-requires : goal.keep-requires
keep-requires c = known_inside c.args.self.now c.args.id c.requires.known

pub returns-in_ok-regex-in-Concatenation : goal.returns-in_ok-regex-in-Concatenation
returns-in_ok-regex-in-Concatenation c =
    let k = known_at c.args.table.now c.args.arena.now c.args.self.now c.args.id c.kept.result c.requires.normals
    c.requires.known c.kept.ensures in
    let e = c.in_ok-regex-in-Concatenation.ensures in
    let inside = known_inside c.args.self.now c.args.id c.requires.known in
    record {
      number = ((rw c.in-Concatenation.is at k).kind, e.names);
      extends = e.extends;
      normals = normals_set c.args.table.now c.args.arena.now c.concatenation.new.arena c.args.self.now
          c.keep.new.self c.args.id (known.Made c.in_ok-regex-in-Concatenation.regex) c.requires.normals e.extends
          inside ((rw c.in-Concatenation.is at k).kind, e.names) (λ h. absurd (false≢true h)) c.keep.ensures;
      more = knows_set c.args.self.now c.keep.new.self c.args.id
          (known.Made c.in_ok-regex-in-Concatenation.regex) inside refl c.keep.ensures;
    }

pub returns-in_err-regex-in-Concatenation : goal.returns-in_err-regex-in-Concatenation
returns-in_err-regex-in-Concatenation c =
    let x = c.from_residual in
    let e = c.in_err-regex-in-Concatenation.ensures in
    record {
      number = IfOk-from_err x.result _ x.ensures.0;
      extends = e.extends;
      normals = normals_grown c.args.table.now c.args.arena.now c.concatenation.new.arena c.args.self.now e.extends
          c.requires.normals;
      more = knows_same c.args.self.now;
    }
