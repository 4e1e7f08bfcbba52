use Rattle.std.proofs.Common.{sym, ◌∙◌}
use Rattle.std.proofs.lemmas.Result.{IfOk-weaker, IfOk-from_err}
use Rattle.sb_deriv.proofs.Heads.{some_weaker, one_below, cat_of_one, cat_of_two, none_weaker}
use Rattle.sb_deriv.proofs.Derivatives.{constants_kept}
use Rattle.sb_deriv.proofs.deriver.Deriver.of_cat.Goals as goal
use Rattle.sb_regex.proofs.CallerLemmas.{two_numbers, extends_same, extends_more, number_kept, one_number}

pub returns-then-not-nullable-clause-found : goal.returns-then-not-nullable-clause-found
returns-then-not-nullable-clause-found c =
    IfOk-weaker c.of_all.result _ _
    (λ f h. some_weaker f _ _
    (λ d m. cat_of_one c.args.arena.now c.of_all.new.arena c.args.a c.args.b d
    (sym c.nullable.ensures ∙ c.if-not-nullable.true) m) h) c.of_all.ensures.found

pub returns-then-not-nullable-clause-added : goal.returns-then-not-nullable-clause-added
returns-then-not-nullable-clause-added c =
    IfOk-weaker c.of_all.result _ _ (λ x h n p q. h n (one_below n c.args.a p)) c.of_all.ensures.added

pub returns-then-branch : goal.returns-then-branch
returns-then-branch c =
    record {
      found = tt;
      idle = tt;
      waits = λ n p q. c.in_ok-want.ensures.waits c.if-branch.true n (two_numbers n c.args.a c.args.b p q);
      added = λ n p q. c.in_ok-want.ensures.added n (two_numbers n c.args.a c.args.b p q);
      extends = extends_same c.args.arena.now;
    }

pub returns : goal.returns
returns c =
    record {
      found = cat_of_two c.make_each.new.arena c.heads_and_tails.new.arena _ _ c.in_ok-choices.choices
          c.in_ok-pieces.pieces.items c.new.result (sym c.nullable.ensures ∙ c.if-not-nullable.false) c.new.ensures
          c.in_ok-choices.ensures.values c.in_ok-pieces.ensures.map;
      idle = c.in_ok-want.ensures.idle c.if-branch.false;
      waits = tt;
      added = λ n p q. c.in_ok-want.ensures.added n (two_numbers n c.args.a c.args.b p q);
      extends = extends_more c.args.arena.now c.heads_and_tails.new.arena c.make_each.new.arena
          c.in_ok-choices.ensures.extends
          c.in_ok-pieces.ensures.extends;
    }

pub returns-in_err-want : goal.returns-in_err-want
returns-in_err-want c =
    let x = c.from_residual in
    record {
      found = IfOk-from_err x.result _ x.ensures.0;
      idle = IfOk-from_err x.result _ x.ensures.0;
      waits = IfOk-from_err x.result _ x.ensures.0;
      added = IfOk-from_err x.result _ x.ensures.0;
      extends = extends_same c.args.arena.now;
    }

pub returns-in_err-choices : goal.returns-in_err-choices
returns-in_err-choices c =
    let x = c.from_residual-in_err-choices in
    record {
      found = IfOk-from_err x.result _ x.ensures.0;
      idle = IfOk-from_err x.result _ x.ensures.0;
      waits = IfOk-from_err x.result _ x.ensures.0;
      added = IfOk-from_err x.result _ x.ensures.0;
      extends = c.in_err-choices.ensures.extends;
    }

pub returns-in_err-pieces : goal.returns-in_err-pieces
returns-in_err-pieces c =
    let x = c.from_residual-in_err-pieces in
    record {
      found = IfOk-from_err x.result _ x.ensures.0;
      idle = IfOk-from_err x.result _ x.ensures.0;
      waits = IfOk-from_err x.result _ x.ensures.0;
      added = IfOk-from_err x.result _ x.ensures.0;
      extends = extends_more c.args.arena.now c.heads_and_tails.new.arena c.make_each.new.arena
          c.in_ok-choices.ensures.extends
          c.in_err-pieces.ensures.extends;
    }

pub make_each-requires : goal.make_each-requires
make_each-requires c =
    let old = c.args.arena.now in
    let new = c.heads_and_tails.new.arena in
    record {
      constants = constants_kept old new c.args.constants.now c.in_ok-choices.ensures.extends c.requires.constants;
      hint = number_kept old new c.args.b c.in_ok-choices.ensures.extends c.requires.right;
      whole = c.in_ok-choices.ensures.whole;
      members = c.in_ok-choices.ensures.numbers;
      operand = tt;
    }

pub of_all-requires : goal.of_all-requires
of_all-requires c =
    record {
      constants = c.requires.constants;
      hint = c.requires.left;
      numbers = one_number c.args.arena.now c.args.a c.requires.left;
      operand = c.requires.right;
      faithful = c.requires.faithful;
    }

pub returns-then-not-nullable-clause-waits : goal.returns-then-not-nullable-clause-waits
returns-then-not-nullable-clause-waits c =
    IfOk-weaker c.of_all.result _ _ (λ f h. none_weaker f _ _ (λ w n p q. w n (one_below n c.args.a p)) h)
    c.of_all.ensures.waits

pub returns-then-not-nullable-clause-idle : goal.returns-then-not-nullable-clause-idle
returns-then-not-nullable-clause-idle c = c.of_all.ensures.idle

pub returns-then-not-nullable-clause-extends : goal.returns-then-not-nullable-clause-extends
returns-then-not-nullable-clause-extends c = c.of_all.ensures.extends
