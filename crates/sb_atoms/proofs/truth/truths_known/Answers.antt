use Rattle.std.proofs.Common.{false, [], ap, ◌∙◌}
use Rattle.sb_term.specs.Descending.{known_at}
use Rattle.sb_atoms.proofs.Gathering.{mapped-more, mapped-all}
use Rattle.sb_atoms.proofs.truth.truths_known.Goals as goal

pub loop-id-preserved : goal.loop-id-preserved
loop-id-preserved c =
    let f = known_at false c.args.known.now.entries in
    mapped-more f c.args.ids.now c.loop-id.id-index c.id-item.result [] _ _ _ c.loop-id-test.true c.loop-id.invariant
    (c.truth_known.ensures ∙ ap f c.id-item.is) c.in_ok-push.ensures.items

pub returns : goal.returns
returns c =
    mapped-all (known_at false c.args.known.now.entries) c.args.ids.now c.loop-id.id-index [] _ c.loop-id-test.false
    c.loop-id.invariant
