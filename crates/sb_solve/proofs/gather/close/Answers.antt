use Rattle.sb_solve.proofs.Words.{◌<◌, length, sym, arith, get_or_from_slice_get}
use Rattle.sb_solve.proofs.Gathered.{closing_step}
use Rattle.sb_solve.proofs.gather.close.Goals as goal

pub loop-place-preserved : goal.loop-place-preserved
loop-place-preserved c =
    let keys = c.loop-place.found.keys in
    let place = c.loop-place.place in
    let below : place < length keys = omega (arith, c.loop-place-test.true, c.len.ensures.len) in
    closing_step c.args.atoms.now c.args.found.now.keys keys c.add_parts.new.found.keys place c.index-atom.result.now 0
    below (sym (get_or_from_slice_get keys place c.index-atom.result.now 0 c.index-atom.ensures))
    c.in_ok-add_parts.ensures.parts c.in_ok-add_parts.ensures.simple c.loop-place.invariant
