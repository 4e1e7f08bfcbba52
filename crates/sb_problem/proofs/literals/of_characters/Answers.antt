use Rattle.sb_lang.specs.Constructors.{any_character}
use Rattle.sb_problem.proofs.Leaves.{named, each_character}
use Rattle.sb_problem.proofs.literals.of_characters.Goals as goal

pub returns-clause-names : goal.returns-clause-names
returns-clause-names c = named _ c.between.result _ any_character each_character c.between.ensures.names
