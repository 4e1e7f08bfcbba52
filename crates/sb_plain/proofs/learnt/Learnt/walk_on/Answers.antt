use Rattle.std.proofs.lemmas.Result.{IfOk-from_err}
use Rattle.sb_regex.proofs.CallerLemmas.{extends_more, names_below, number_kept, extends_same}
use Rattle.sb_plain.specs.Staying.{IsStep}
use Rattle.sb_plain.proofs.Along.{code_below}
use Rattle.sb_plain.proofs.learnt.Learnt.walk_on.Goals as goal

pub plain_derivative-requires-clause-character : goal.plain_derivative-requires-clause-character
plain_derivative-requires-clause-character c =
    code_below c.args.codes.now c.loop-stay.stay.to c.requires.word c.loop-stay-test.true

pub loop-stay-preserved : goal.loop-stay-preserved
loop-stay-preserved c =
    let before = c.loop-stay.invariant in
    let step : IsStep c.loop-stay.arena c.plain_derivative.new.arena c.args.codes.now c.loop-stay.stay
    c.in_ok-rest.rest =
    record {
      begins = before.4;
      within = c.loop-stay-test.true;
      extends = c.in_ok-rest.ensures.extends;
      target = c.in_ok-rest.ensures.ok;
    } in (
      λ n l begun. c.on-stay.ensures.right c.loop-stay.arena c.plain_derivative.new.arena n c.args.codes.now
          (number_kept c.args.arena.now c.loop-stay.arena n before.1 l) step (before.0 n l begun),
      extends_more c.args.arena.now c.loop-stay.arena c.plain_derivative.new.arena before.1
          c.in_ok-rest.ensures.extends,
      c.in_ok-rest.ensures.right,
      rw c.on-stay.ensures.rest (names_below c.plain_derivative.new.arena c.in_ok-rest.rest _ c.in_ok-rest.ensures.ok),
      c.on-stay.ensures.begins before.4,
    )

pub returns-then-members-left : goal.returns-then-members-left
returns-then-members-left c =
    let b = c.loop-stay.invariant in
    record {
      begins = b.4;
      stay = b.0;
      extends = b.1;
      right = b.2;
    }

pub returns-in_err-rest : goal.returns-in_err-rest
returns-in_err-rest c =
    let x = c.from_residual in
    let b = c.loop-stay.invariant in
    let e = c.plain_derivative.ensures in
    record {
      begins = IfOk-from_err x.result _ x.ensures.0;
      stay = IfOk-from_err x.result _ x.ensures.0;
      extends = extends_more c.args.arena.now c.loop-stay.arena c.plain_derivative.new.arena b.1 e.extends;
      right = e.right;
    }

pub returns : goal.returns
returns c =
    let b = c.loop-stay.invariant in
    record {
      begins = b.4;
      stay = b.0;
      extends = b.1;
      right = b.2;
    }

pub loop-stay-init : goal.loop-stay-init
loop-stay-init c =
    (λ n l begun. begun, extends_same c.args.arena.now, c.requires.right, c.requires.known, c.requires.begins)
