use Rattle.std.proofs.Common.{◌+◌, drop, slice_get, subst, sym}
use Rattle.sb_rules.proofs.Loops.{Found, found-more, found-lacks, found-all}
use Rattle.sb_rules.proofs.known.KnownRegexes.regexes.Goals as goal

pub loop-number-preserved : goal.loop-number-preserved
loop-number-preserved c =
    let f = slice_get c.args.self.now.order in
    let i = c.loop-number.number-index in
    subst (λ ids. Found f c.args.numbers.now ids (drop (i + 1) c.args.numbers.now)) (sym c.in_ok-push-in-Some.ensures.items)
    (found-more f c.args.numbers.now c.loop-number.ids.items i c.in-Some.id c.loop-number-test.true
    (sym c.in-Some.ensures) c.loop-number.invariant)

pub returns-in-None : goal.returns-in-None
returns-in-None c =
    found-lacks (slice_get c.args.self.now.order) c.args.numbers.now c.loop-number.ids.items c.loop-number.number-index
    c.loop-number-test.true (sym c.in-None.ensures) c.loop-number.invariant

pub returns : goal.returns
returns c =
    found-all (slice_get c.args.self.now.order) c.args.numbers.now c.loop-number.ids.items c.loop-number.number-index
    c.loop-number-test.false c.loop-number.invariant
