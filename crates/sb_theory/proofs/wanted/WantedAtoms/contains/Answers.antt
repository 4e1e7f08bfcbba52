use Rattle.sb_theory.proofs.Words.{◌∙◌, List, ap, ℕ, is_wanted}
use Rattle.sb_theory.proofs.wanted.WantedAtoms.contains.Goals as goal

pub returns : goal.returns
returns c = c.contains.ensures ∙ ap (λ (ns : List ℕ). is_wanted ns c.args.atom) c.self.view_is
