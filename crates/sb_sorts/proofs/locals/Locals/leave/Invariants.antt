use Rattle.std.proofs.Common.{◌≡◌, ◌-◌, drop}
use Rattle.sb_sorts.proofs.locals.Locals.leave.Given as goal

abbrev pub invariant-loop-place : goal.invariant-loop-place
invariant-loop-place l = l.self ≡ drop (l._place - l.count) l.fn.self
