use Rattle.std.proofs.Common.{◌≡◌, ◌<◌, ◌++◌, ◌∷◌, [], sym, ap, subst, ◌∙◌}
use Rattle.std.proofs.lemmas.Result.{IfOk-from_err}
use Rattle.sb_regex.proofs.CallerLemmas.{extends_same, extends_more}
use Rattle.sb_problem.specs.Waiting.{AreWaiting, is_met, waits, weights}
use Rattle.sb_problem.proofs.Chains.{none_left}
use Rattle.sb_problem.proofs.Keeping.{kept_known}
use Rattle.sb_problem.proofs.Settling.{one_waits, one_met, all_settled}
use Rattle.sb_problem.proofs.normals.Normals.reach.Goals as goal

pub returns-in_err-lengthen : goal.returns-in_err-lengthen
returns-in_err-lengthen c =
    let x = c.from_residual in
    record {
      reached = IfOk-from_err x.result _ x.ensures.0;
      extends = extends_same c.args.arena.now;
      normals = c.in_err-lengthen.ensures.normals c.args.table.now c.args.arena.now c.requires.known
          c.requires.normals;
    }

pub returns-in_default : goal.returns-in_default
returns-in_default c = record {
  reached = kept_known c.lengthen.new.self c.args.id c.kept.result c.kept.ensures c.in_default.not-Nothing;
  extends = extends_same c.args.arena.now;
  normals = c.in_ok-lengthen.ensures.normals c.args.table.now c.args.arena.now c.requires.known c.requires.normals;
}

pub returns-in_err-push : goal.returns-in_err-push
returns-in_err-push c =
    let x = c.from_residual-in_err-push in
    record {
      reached = IfOk-from_err x.result _ x.ensures.0;
      extends = extends_same c.args.arena.now;
      normals = c.in_ok-lengthen.ensures.normals c.args.table.now c.args.arena.now c.requires.known
          c.requires.normals;
    }

pub loop-next-init : goal.loop-next-init
loop-next-init c =
    let one : c.push.new.self.items ≡ waits c.args.id ∷ [] =
    c.in_ok-push.ensures.items ∙ ap (λ ws. ws ++ waits c.args.id ∷ []) c.new-waiting.ensures.items in
    record {
      normals = c.in_ok-lengthen.ensures.normals c.args.table.now c.args.arena.now c.requires.known
          c.requires.normals;
      extends = extends_same c.args.arena.now;
      waiting = one_waits c.args.table.now c.lengthen.new.self c.args.id c.push.new.self.items
          c.in_ok-lengthen.ensures.inside one;
      met = one_met c.lengthen.new.self c.args.id c.push.new.self.items one;
    }

pub settle-requires : goal.settle-requires
settle-requires c = record {
  normals = c.loop-next.invariant.normals;
  waiting = subst (AreWaiting c.args.table.now c.loop-next.self) c.in-Some.ensures.items c.loop-next.invariant.waiting;
}

pub loop-next-preserved : goal.loop-next-preserved
loop-next-preserved c =
    let s = c.in_ok-settle.ensures in
    record {
      normals = s.normals;
      extends = extends_more _ _ _ c.loop-next.invariant.extends s.extends;
      waiting = s.settles.waiting;
      met = s.settles.kept c.args.id
          (ap (λ ws. is_met c.loop-next.self ws c.args.id) (sym c.in-Some.ensures.items) ∙ c.loop-next.invariant.met);
    }

pub loop-next-smaller : goal.loop-next-smaller
loop-next-smaller c =
    subst (λ ws. weights c.args.table.now c.settle.new.waiting.items < weights c.args.table.now ws)
    (sym c.in-Some.ensures.items) c.in_ok-settle.ensures.settles.lighter

pub returns-in_err-settle : goal.returns-in_err-settle
returns-in_err-settle c =
    let x = c.from_residual-in_err-settle in
    let s = c.in_err-settle.ensures in
    record {
      reached = IfOk-from_err x.result _ x.ensures.0;
      extends = extends_more _ _ _ c.loop-next.invariant.extends s.extends;
      normals = s.normals;
    }

pub returns : goal.returns
returns c = record {
  reached = all_settled c.loop-next.self c.args.id c.loop-next.waiting.items
      (none_left c.loop-next.waiting c.in_default-pop.ensures.cases.0) c.loop-next.invariant.met;
  extends = c.loop-next.invariant.extends;
  normals = c.loop-next.invariant.normals;
}
