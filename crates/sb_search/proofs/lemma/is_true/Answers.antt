use Rattle.sb_search.proofs.Words.{Bool, false, Option, unwrap_or, ap, ◌∙◌, held}
use Rattle.sb_search.proofs.Due.{value_true}
use Rattle.sb_search.proofs.lemma.is_true.Goals as goal

pub returns : goal.returns
returns c =
    c.unwrap_or.ensures ∙ ap (λ (o : Option Bool). unwrap_or o false) c.literal_value.ensures.value
    ∙ value_true (held c.args.trail.now.literals) c.args.literal
