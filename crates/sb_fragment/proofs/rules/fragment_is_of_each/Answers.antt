use Rattle.sb_fragment.proofs.WholeFacts as fact
use Rattle.sb_fragment.proofs.rules.fragment_is_of_each.Goals as goal

pub returns : goal.returns
returns c = fact.fragment_is_of_each
