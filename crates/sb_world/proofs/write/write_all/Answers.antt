use Rattle.std.proofs.Common.{ℕ, arith, length-drop}
use Rattle.std.proofs.lemmas.List.{take_all}
use Rattle.sb_world.proofs.WriteLemmas.{Sofar-step}
use Rattle.sb_world.proofs.write.write_all.Goals as goal

pub loop-rest-preserved : goal.loop-rest-preserved
loop-rest-preserved g c =
    let within = c.in_ok-count.ensures.within in
    let written = c.in_ok-count.ensures.written in
    let counts = c.in_ok-count.ensures.counts in
    Sofar-step _ _ _ _ _ _ _ _ _ _ _ c.loop-rest.invariant within (take_all _ _ (omega (arith, length-drop {A = ℕ})))
    written counts
