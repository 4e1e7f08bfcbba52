use Rattle.sb_trail.proofs.CompactLemmas.{literal_of_code_of_literal}
use Rattle.sb_trail.proofs.compact.CompactLit.new.Goals as goal

pub returns : goal.returns
returns c = rw c.code_of_literal.ensures (literal_of_code_of_literal c.args.literal)
