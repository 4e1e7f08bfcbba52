use Rattle.std.proofs.Common.{◌∙◌}
use Rattle.sb_reader.specs.Forms.{shapes_in}
use Rattle.sb_reader.proofs.Laid.{none_laid}
use Rattle.sb_reader.proofs.sexpr.Shapes.is_empty.Goals as goal

pub returns : goal.returns
unfolding shapes_in
returns c = c.is_empty.ensures ∙ none_laid c.args.self.nodes.now c.args.self.bytes.now
