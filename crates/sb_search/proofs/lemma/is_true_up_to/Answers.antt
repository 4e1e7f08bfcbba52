use Rattle.sb_search.proofs.Due.{true_there}
use Rattle.sb_search.proofs.lemma.is_true_up_to.Goals as goal

pub returns : goal.returns
returns c =
    rw (c.is_true.ensures, c.level_of.ensures)
    (true_there c.args.level c.args.trail.now.literals c.args.literal c.literals-entries.ensures.trail.distinct)
