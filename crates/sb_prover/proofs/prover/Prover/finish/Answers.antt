use Rattle.sb_prover.proofs.Proved.{finished}
use Rattle.sb_prover.proofs.prover.Prover.finish.Goals as goal

pub returns-clause-told : goal.returns-clause-told
returns-clause-told g c = λ x p h.
    finished x c.args.self.now p (g.L.Tape.told c.args.tape.now) (g.L.Tape.told c.begin.new.tape)
    (g.L.Tape.told c.put.new.self) h c.in_ok-begin.ensures.told c.in_ok-put.ensures.ok
