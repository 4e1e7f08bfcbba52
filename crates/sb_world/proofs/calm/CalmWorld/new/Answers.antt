use Rattle.std.proofs.Common.{ap, ◌∙◌}
use Rattle.sb_world.specs.Worlds.{told_input, told_output}
use Rattle.sb_world.proofs.Told.{input_at-told, output_at-told}
use Rattle.sb_world.proofs.calm.CalmWorld.new.Goals as goal

pub returns-clause-inputs : goal.returns-clause-inputs
returns-clause-inputs c = λ port. input_at-told port _ _ _ ∙ ap told_input (c.new-2.ensures.inputs port)

pub returns-clause-outputs : goal.returns-clause-outputs
returns-clause-outputs c = λ port. output_at-told port _ _ _ ∙ ap told_output (c.new-2.ensures.outputs port)
