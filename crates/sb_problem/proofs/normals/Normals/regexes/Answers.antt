use Rattle.std.proofs.Common.{subst}
use Rattle.sb_script.specs.Brought.{is_regex}
use Rattle.sb_regex.proofs.CallerLemmas.{extends_same, extends_more}
use Rattle.sb_problem.proofs.Keeping.{all_item, one_other, regexes_none, regexes_further, knows_same, knows_both}
use Rattle.std.proofs.lemmas.Result.{IfOk-from_err}
use Rattle.std.proofs.lemmas.List.{take_all}
use Rattle.sb_term.specs.Numbered.{terms_at}
use Rattle.sb_problem.specs.Known.{is_known}
use Rattle.sb_problem.specs.Shapes.{AreRegexesOf}
use Rattle.sb_problem.proofs.normals.Normals.regexes.Goals as goal

pub loop-id-init : goal.loop-id-init
loop-id-init c = (
  rw c.new-found.ensures.items (regexes_none c.args.arena.now),
  extends_same c.args.arena.now,
  c.requires.normals,
  knows_same c.args.self.now,
)

pub regex-requires : goal.regex-requires
regex-requires c = record {
  known = c.loop-id.invariant.3.kept c.id-item.result
      (all_item (is_known c.args.self.now) c.args.ids.now c.loop-id.id-index c.id-item.result c.requires.known
      c.loop-id-test.true c.id-item.is);
  normals = c.loop-id.invariant.2;
}

pub loop-id-preserved : goal.loop-id-preserved
loop-id-preserved c = (
  regexes_further c.loop-id.arena c.regex.new.arena c.args.table.now c.args.ids.now c.loop-id.id-index
      c.id-item.result c.loop-id.found.items c.push.new.self.items c.in-Some.regex c.loop-id.invariant.0
      c.in_ok-regex.ensures.extends c.loop-id-test.true c.id-item.is (rw c.in-Some.is at c.in_ok-regex.ensures.number)
      c.in_ok-push-in-Some.ensures.items,
  extends_more _ _ _ c.loop-id.invariant.1 c.in_ok-regex.ensures.extends,
  c.in_ok-regex.ensures.normals,
  knows_both _ _ _ c.loop-id.invariant.3 c.in_ok-regex.ensures.more,
)

pub returns-in_err-regex : goal.returns-in_err-regex
returns-in_err-regex c =
    let e = c.in_err-regex.ensures in
    record {
      found = IfOk-from_err c.from_residual.result _ c.from_residual.ensures.0;
      extends = extends_more _ _ _ c.loop-id.invariant.1 e.extends;
      normals = e.normals;
      more = knows_both _ _ _ c.loop-id.invariant.3 e.more;
    }

pub returns-in_err-push-in-Some : goal.returns-in_err-push-in-Some
returns-in_err-push-in-Some c =
    let x = c.from_residual-in_err-push-in-Some in
    let e = c.in_ok-regex.ensures in
    record {
      found = IfOk-from_err x.result _ x.ensures.0;
      extends = extends_more _ _ _ c.loop-id.invariant.1 e.extends;
      normals = e.normals;
      more = knows_both _ _ _ c.loop-id.invariant.3 e.more;
    }

pub returns-in-None : goal.returns-in-None
returns-in-None c =
    let e = c.in_ok-regex.ensures in
    record {
      found = one_other is_regex c.args.table.now c.args.ids.now c.loop-id.id-index c.id-item.result
          c.loop-id-test.true c.id-item.is (rw c.in-None.is at e.number);
      extends = extends_more _ _ _ c.loop-id.invariant.1 e.extends;
      normals = e.normals;
      more = knows_both _ _ _ c.loop-id.invariant.3 e.more;
    }

pub returns : goal.returns
returns c = record {
  found = subst (λ is. AreRegexesOf c.loop-id.arena (terms_at c.args.table.now is) c.loop-id.found.items)
      (take_all c.loop-id.id-index c.args.ids.now c.loop-id-test.false) c.loop-id.invariant.0;
  extends = c.loop-id.invariant.1;
  normals = c.loop-id.invariant.2;
  more = c.loop-id.invariant.3;
}
