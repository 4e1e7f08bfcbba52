use Rattle.sb_session.proofs.Words.{refl, ◌∙◌, ap, on_err_weaker, on_ok_weaker, proof_of}
use Rattle.sb_session.proofs.CheckLemmas.{end_untold, end_none, end_written, end_cut_short}
use Rattle.sb_session.proofs.command.finish_proof.Goals as goal

pub returns-then-not-proved-clause-ok : goal.returns-then-not-proved-clause-ok
returns-then-not-proved-clause-ok g c s p same tracked =
    end_untold s c.args.prover.now p (g.W.World.outside c.args.world.now)
    (same ∙ ap (λ b. proof_of b c.args.prover.now) c.if-not-proved.true)

pub returns-in_default-clause-err : goal.returns-in_default-clause-err
returns-in_default-clause-err g c s p same tracked =
    end_none s c.args.prover.now p (g.W.World.outside c.args.world.now) (g.W.World.outside c.args.world.now)
    (same ∙ ap (λ b. proof_of b c.args.prover.now) c.if-not-proved.false) refl

pub returns-clause-ok : goal.returns-clause-ok
returns-clause-ok g c =
    on_ok_weaker c.write_all.result
    (λ written s p same tracked.
    end_written s c.args.prover.now p c.new-tape.result c.finish.new.tape c.bytes.result.now
    (g.W.World.outside c.args.world.now) (g.W.World.outside c.write_all.new.world)
    (same ∙ ap (λ b. proof_of b c.args.prover.now) c.if-not-proved.false) tracked
    c.new-tape.ensures c.bytes.ensures c.in-Ok.ensures.told written)
    c.write_all.ensures.ok

pub returns-clause-err : goal.returns-clause-err
returns-clause-err g c =
    on_err_weaker c.write_all.result
    (λ cut s p same tracked.
    end_cut_short s c.args.prover.now p c.new-tape.result c.finish.new.tape c.bytes.result.now
    (g.W.World.outside c.args.world.now) (g.W.World.outside c.write_all.new.world)
    (same ∙ ap (λ b. proof_of b c.args.prover.now) c.if-not-proved.false) tracked
    c.new-tape.ensures c.bytes.ensures c.in-Ok.ensures.told cut)
    c.write_all.ensures.err
