use Rattle.sb_facts.proofs.CallerLemmas.{ok_then}
use Rattle.sb_problem.proofs.words.put_parts.Goals as goal

pub returns : goal.returns
returns c = ok_then c.put_backwards.result _ _ (λ e. record {
  numbers = c.arguments_of.result.now;
  are = c.arguments_of.ensures.terms;
  below = c.arguments_of.ensures.below;
  behind = e;
}) c.put_backwards.ensures
