use Rattle.sb_split.proofs.Words.{ap, ◌∙◌, list_all, and_atom, is_small_literal}
use Rattle.sb_split.proofs.defining.conjunction_line.Goals as goal

pub returns : goal.returns
returns c = (
  ap and_atom (c.from_vec.ensures.items ∙ c.in_ok-all.ensures.0),
  ap (list_all is_small_literal) (c.from_vec.ensures.items ∙ c.in_ok-all.ensures.0) ∙ c.in_ok-all.ensures.1,
)
