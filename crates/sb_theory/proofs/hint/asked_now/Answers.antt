use Rattle.sb_theory.proofs.hint.asked_now.Goals as goal

pub loop-atom-preserved : goal.loop-atom-preserved
loop-atom-preserved c = c.in_ok-put_asked.ensures
