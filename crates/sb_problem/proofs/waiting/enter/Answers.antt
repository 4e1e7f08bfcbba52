use Rattle.std.proofs.Common.{◌++◌, ◌∷◌, map, refl, ap, ◌∙◌, arith}
use Rattle.std.proofs.lemmas.List.{take_all}
use Rattle.sb_problem.specs.Waiting.{enters, waits}
use Rattle.sb_problem.proofs.Settling.{put_more}
use Rattle.sb_problem.proofs.waiting.enter.Goals as goal

pub loop-argument-init : goal.loop-argument-init
loop-argument-init c = c.in_ok-push.ensures.items

pub loop-argument-preserved : goal.loop-argument-preserved
loop-argument-preserved c =
    put_more c.args.waiting.now.items c.loop-argument.waiting.items c.push-in-loop-argument.new.self.items c.args.id
    c.args.arguments.now c.loop-argument.argument-index c.argument-item.result _ c.loop-argument.invariant
    c.loop-argument-test.true c.argument-item.is refl c.in_ok-push-2.ensures.items

pub returns : goal.returns
returns c =
    c.loop-argument.invariant
    ∙ ap (λ is. c.args.waiting.now.items ++ enters c.args.id ∷ map waits is)
    (take_all c.loop-argument.argument-index c.args.arguments.now (omega (arith, c.loop-argument-test.false)))
