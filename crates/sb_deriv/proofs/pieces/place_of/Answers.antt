use Rattle.std.proofs.Common.{◌≡◌, ◌<◌, ◌+◌, length, get_or, subst, ℕ, arith}
use Rattle.sb_deriv.proofs.PieceFacts.{map_some, map_starts}
use Rattle.sb_deriv.proofs.pieces.place_of.Goals as goal

pub loop-high-init : goal.loop-high-init
loop-high-init c =
    let z = map_some c.args.pieces.now 0x30000 (omega arith) c.requires.whole in
    let f = map_starts c.args.pieces.now 0x30000 (omega arith) c.requires.whole in
    (z, omega arith, omega (arith, f), λ l. absurd (omega arith))

pub returns-clause-within : goal.returns-clause-within
returns-clause-within c = let i = c.loop-high.invariant in omega (arith, i.0, i.1)

pub returns-clause-begins : goal.returns-clause-begins
returns-clause-begins c = c.loop-high.invariant.2

pub returns-clause-ends : goal.returns-clause-ends
returns-clause-ends c =
    let i = c.loop-high.invariant in
    let e : c.loop-high.high ≡ c.loop-high.low + 1 = omega (arith, i.0, c.loop-high-test.false) in
    subst (λ (h : ℕ). h < length c.args.pieces.now → c.args.c < (get_or c.args.pieces.now h (0, 0)).0) e i.3
