use Rattle.sb_rulebook.proofs.FittingTerms.{term_reached}
use Rattle.sb_rulebook.proofs.laws.fitting_is_translated.Goals as goal

pub returns : goal.returns
returns c = λ t fits well atoms.
    let one = (term_reached c.order_tells_apart.ensures t fits well).reach atoms in
    (one.more, one.value, one.found)
