use Rattle.sb_session.proofs.Words.{err_from_is_err_and}
use Rattle.sb_world.specs.declared.OutPort.TheVariants.{Faults}
use Rattle.sb_session.proofs.WritingLemmas.{one_cut}
use Rattle.sb_session.proofs.solve.refuse_words.Goals as goal

pub returns-in_err-write_all-clause-err : goal.returns-in_err-write_all-clause-err
returns-in_err-write_all-clause-err g c =
    let p = err_from_is_err_and c.from_residual.result c.from_residual.ensures.1 in
    rw p.1
    (one_cut Faults c.args.text.now (g.W.World.outside c.args.world.now) (g.W.World.outside c.write_all.new.world)
    c.in_err-write_all.ensures.err)
