use Rattle.std.proofs.Common.{refl}
use Rattle.sb_problem.proofs.Keeping.{normals_grown, made_known, none_given}
use Rattle.std.proofs.lemmas.Result.{IfOk-from_err}
use Rattle.sb_regex.proofs.CallerLemmas.{extends_more}
use Rattle.sb_problem.proofs.normals.Normals.join.Goals as goal

pub returns-in_ok-joined-in-Some-clause-is : goal.returns-in_ok-joined-in-Some-clause-is
returns-in_ok-joined-in-Some-clause-is c =
    made_known c.regexes.new.arena c.joined.new.arena c.args.symbol c.args.table.now c.args.ids.now
    c.in-Some.regexes.items c.deref.result.now _ c.in_ok-joined-in-Some.field-0 c.made.result c.requires.joins
    refl (rw c.in-Some.is at c.in_ok-regexes.ensures.found) c.deref.ensures.value c.in_ok-joined-in-Some.ensures.ok
    c.made.ensures

pub returns-in_ok-joined-in-Some-clause-normals : goal.returns-in_ok-joined-in-Some-clause-normals
returns-in_ok-joined-in-Some-clause-normals c =
    normals_grown c.args.table.now c.regexes.new.arena c.joined.new.arena c.regexes.new.self
    c.in_ok-joined-in-Some.ensures.extends c.in_ok-regexes.ensures.normals

pub returns-in-None-clause-is : goal.returns-in-None-clause-is
returns-in-None-clause-is c =
    none_given c.regexes.new.arena c.args.symbol c.args.table.now c.args.ids.now _ c.requires.joins refl
    (rw c.in-None.is at c.in_ok-regexes.ensures.found)

pub returns-in_err-joined-in-Some : goal.returns-in_err-joined-in-Some
returns-in_err-joined-in-Some c =
    let x = c.from_residual-in_err-joined-in-Some in
    let before = c.in_ok-regexes.ensures in
    let e = c.in_err-joined-in-Some.ensures in
    record {
      is = IfOk-from_err x.result _ x.ensures.0;
      extends = extends_more _ _ _ before.extends e.extends;
      normals = normals_grown c.args.table.now c.regexes.new.arena c.joined.new.arena c.regexes.new.self e.extends
          before.normals;
      more = before.more;
    }

pub returns-in_ok-joined-in-Some-clause-extends : goal.returns-in_ok-joined-in-Some-clause-extends
returns-in_ok-joined-in-Some-clause-extends c =
    extends_more _ _ _ c.in_ok-regexes.ensures.extends c.in_ok-joined-in-Some.ensures.extends
