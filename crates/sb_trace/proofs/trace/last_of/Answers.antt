use Rattle.std.proofs.Common.{◌≤◌, ◌+◌, length, refl, arith}
use Rattle.std.proofs.lemmas.Option.{slice_get_read}
use Rattle.sb_trace.proofs.Branches.{begins_behind}
use Rattle.sb_trace.proofs.trace.last_of.Goals as goal

pub overflow_sub-result : goal.overflow_sub-result
overflow_sub-result c =
    let h = c.in-Some.ensures in
    let there = slice_get_read c.args.pieces.now (length c.args.pieces.now) (c.args.place + 1) c.in-Some.field-0.now
    refl
    h.lookup.3.0 h.lookup.1 in
    let l : c.args.place + 1 ≤ c.in-Some.field-0.now.0 =
    begins_behind c.args.pieces.now (c.args.place + 1) c.in-Some.field-0.now c.requires.map there in
    omega arith
