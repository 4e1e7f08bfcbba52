use Rattle.sb_rulebook.proofs.FittingTerms.{live_reached}
use Rattle.sb_rulebook.proofs.laws.live_are_translated.Goals as goal

pub returns : goal.returns
returns c = λ s inside well atoms.
    let all = (live_reached c.order_tells_apart.ensures s inside well).reach atoms in
    (all.more, all.value, all.found)
