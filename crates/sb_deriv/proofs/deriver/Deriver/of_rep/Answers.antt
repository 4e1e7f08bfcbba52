use Rattle.std.proofs.lemmas.Result.{IfOk-weaker}
use Rattle.sb_regex.proofs.CallerLemmas.{names_below, number_kept, extends_more}
use Rattle.sb_deriv.proofs.Derivatives.{faithful_kept, constants_kept}
use Rattle.sb_deriv.proofs.Heads.{some_weaker, none_weaker, one_below, rep_of_one}
use Rattle.sb_deriv.proofs.deriver.Deriver.of_rep.Goals as goal

pub of_all-requires : goal.of_all-requires
of_all-requires c =
    let old = c.args.arena.now in
    let new = c.rep.new.self in
    record {
      constants = constants_kept old new c.args.constants.now c.in_ok-rest.ensures.extends c.requires.constants;
      hint = names_below new c.in_ok-rest.rest _ c.in_ok-rest.ensures.ok;
      numbers = one_below _ c.args.a (number_kept old new c.args.a c.in_ok-rest.ensures.extends c.requires.body);
      operand = names_below new c.in_ok-rest.rest _ c.in_ok-rest.ensures.ok;
      faithful = faithful_kept old new c.args.self.now c.in_ok-rest.ensures.extends c.requires.faithful;
    }

pub returns-clause-found : goal.returns-clause-found
returns-clause-found c =
    let names = rw (c.saturating_sub.ensures) at c.in_ok-rest.ensures.ok in
    IfOk-weaker c.of_all.result _ _
    (λ f h. some_weaker f _ _
    (λ d m. rep_of_one c.args.arena.now c.rep.new.self c.of_all.new.arena c.args.a c.in_ok-rest.rest c.args.least
    c.args.most d c.in_ok-rest.ensures.extends c.requires.body c.requires.some names m) h)
    c.of_all.ensures.found

pub returns-clause-waits : goal.returns-clause-waits
returns-clause-waits c =
    IfOk-weaker c.of_all.result _ _ (λ f h. none_weaker f _ _ (λ w n p. w n (one_below n c.args.a p)) h)
    c.of_all.ensures.waits

pub returns-clause-added : goal.returns-clause-added
returns-clause-added c =
    IfOk-weaker c.of_all.result _ _ (λ x h n p q. h n (one_below n c.args.a p) q) c.of_all.ensures.added

pub returns-clause-idle : goal.returns-clause-idle
returns-clause-idle c = c.of_all.ensures.idle

pub returns-clause-extends : goal.returns-clause-extends
returns-clause-extends c =
    extends_more c.args.arena.now c.rep.new.self c.of_all.new.arena c.in_ok-rest.ensures.extends
    c.of_all.ensures.extends
