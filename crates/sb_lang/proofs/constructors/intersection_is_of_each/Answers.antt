use Rattle.sb_lang.proofs.ConstructorFacts.{intersection_is_of_each}
use Rattle.sb_lang.proofs.constructors.intersection_is_of_each.Goals as goal

pub returns : goal.returns
returns c = intersection_is_of_each
