use Rattle.std.proofs.Common.{length, sym, ◌∙◌}
use Rattle.std.proofs.lemmas.Bool.{eqb-true}
use Rattle.sb_models.proofs.ValueFacts.{empty_past}
use Rattle.sb_models.proofs.words.is_at.Goals as goal

pub returns-in-None : goal.returns-in-None
returns-in-None c = λ empty.
    empty_past c.args.words.now c.args.place c.args.numbers.now c.in-None.ensures.lookup.3
    (eqb-true (length c.args.numbers.now) 0 (sym c.is_empty.ensures ∙ empty))
