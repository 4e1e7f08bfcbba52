use Rattle.std.proofs.Common.{◌<◌, ◌-◌, length, drop, ap, arith}
use Rattle.sb_rules.proofs.Loops.{number-within, marked-long}
use Rattle.sb_rules.proofs.known.mark.Goals as goal

pub index_mut-requires : goal.index_mut-requires
index_mut-requires c =
    let place = c.loop-place.place in
    let numbers = c.args.numbers.now in
    let old = c.args.marks.now.items in
    let there : place - 1 < length numbers = omega arith in
    omega (
      arith,
      number-within numbers (length old) (place - 1) c.requires there,
      ap length c.loop-place.invariant.marks,
      marked-long (drop place numbers) old,
      c.loop-place.marks.ok.0,
    )
