use Rattle.std.proofs.Common.{arith}
use Rattle.std.proofs.lemmas.Result.{IfOk-from_err}
use Rattle.sb_regex.proofs.CallerLemmas.{extends_same, extends_more, names_below}
use Rattle.sb_plain.proofs.Along.{along_none, along_more, along_all, code_below}
use Rattle.sb_plain.proofs.learnt.Learnt.along.Goals as goal

pub loop-c-init : goal.loop-c-init
loop-c-init c = (
  along_none c.args.arena.now c.args.r c.requires.known,
  extends_same c.args.arena.now,
  c.requires.right,
)

pub plain_derivative-requires-clause-known : goal.plain_derivative-requires-clause-known
plain_derivative-requires-clause-known c = names_below c.loop-c.arena c.loop-c.rest _ c.loop-c.invariant.0

pub plain_derivative-requires-clause-character : goal.plain_derivative-requires-clause-character
plain_derivative-requires-clause-character c =
    code_below c.args.codes.now c.loop-c.c-index c.requires.word c.loop-c-test.true

pub loop-c-preserved : goal.loop-c-preserved
loop-c-preserved c = (
  along_more c.loop-c.arena c.plain_derivative.new.arena _ c.args.codes.now c.loop-c.c-index c.loop-c.rest
      c.in_ok-rest.rest c.loop-c-test.true c.loop-c.invariant.0 c.in_ok-rest.ensures.ok,
  extends_more c.args.arena.now c.loop-c.arena c.plain_derivative.new.arena c.loop-c.invariant.1
      c.in_ok-rest.ensures.extends,
  c.in_ok-rest.ensures.right,
)

pub returns-clause-ok : goal.returns-clause-ok
returns-clause-ok c =
    along_all c.loop-c.arena _ c.args.codes.now c.loop-c.c-index c.loop-c.rest (omega (arith, c.loop-c-test.false))
    c.loop-c.invariant.0

pub returns-in_err-rest : goal.returns-in_err-rest
returns-in_err-rest c =
    let x = c.from_residual in
    record {
      ok = IfOk-from_err x.result _ x.ensures.0;
      extends = extends_more c.args.arena.now c.loop-c.arena c.plain_derivative.new.arena c.loop-c.invariant.1
          c.plain_derivative.ensures.extends;
      right = c.plain_derivative.ensures.right;
    }
