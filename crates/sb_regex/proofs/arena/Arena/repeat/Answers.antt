use Rattle.std.proofs.Common.{◌≡◌, ◌==◌, true, if◌then◌else◌, ap, ◌∙◌, arith}
use Rattle.std.proofs.lemmas.Bool.Decides.{nat_tests}
use Rattle.sb_lang.specs.Regex.{none, eps}
use Rattle.sb_regex.proofs.CallerLemmas.{names_from}
use Rattle.sb_regex.proofs.Building.{normal_at, one_below, normal_rep, rep_eps, rep_none_of_none, rep_of_none, rep_other}
use Rattle.sb_regex.proofs.arena.Arena.repeat.Goals as goal

pub intern-requires : goal.intern-requires
intern-requires c = record {
  parts = one_below c.args.self.now c.args.body c.requires.body;
  normal = normal_rep _ c.args.least c.args.most c.constructors_give_normal.ensures
      (normal_at c.args.self.now c.args.body c.normal_regexes_each_once.ensures.normal c.requires.body)
      (rep_other c.args.self.now _ _ c.args.least c.args.most c.requires.ordered c.requires.some c.requires.not_once
      c.node.ensures.value c.in_default.not-None c.in_default.not-Eps);
}

pub returns-in-Eps-clause-ok : goal.returns-in-Eps-clause-ok
returns-in-Eps-clause-ok c =
    names_from c.args.self.now c.args.body _ c.requires.body
    (rep_eps c.args.self.now _ _ c.args.least c.args.most c.requires.ordered c.requires.some c.requires.not_once
    c.node.ensures.value c.in-Eps.is)

pub returns-then-least-eq0-clause-ok : goal.returns-then-least-eq0-clause-ok
returns-then-least-eq0-clause-ok c =
    let e : true ≡ (c.args.least == 0) = grind (arith, nat_tests, c.if-least-eq0.true) in
    rw (← ap (λ b. if b then eps else none) e
    ∙ rep_none_of_none c.args.self.now _ _ c.args.least c.args.most c.requires.ordered c.requires.some
    c.requires.not_once c.node.ensures.value c.in-None.is)
    (c.eps.ensures.ok)

pub returns-else-least-eq0-clause-ok : goal.returns-else-least-eq0-clause-ok
returns-else-least-eq0-clause-ok c =
    names_from c.args.self.now c.args.body _ c.requires.body
    (rep_of_none c.args.self.now _ _ c.args.least c.args.most c.requires.ordered c.requires.some c.requires.not_once
    c.node.ensures.value c.in-None.is c.if-least-eq0.false)

pub returns-in_default : goal.returns-in_default
returns-in_default c = record {
  ok = rw (← rep_other c.args.self.now _ _ c.args.least c.args.most c.requires.ordered c.requires.some
      c.requires.not_once c.node.ensures.value c.in_default.not-None c.in_default.not-Eps) (c.intern.ensures.ok);
  extends = c.intern.ensures.extends;
}
