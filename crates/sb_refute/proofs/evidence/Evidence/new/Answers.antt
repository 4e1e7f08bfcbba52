use Rattle.sb_refute.proofs.Words.{refl, sym, ap, ◌∙◌, none-some, atoms_in, State, asserted_at}
use Rattle.sb_refute.proofs.Clauses.{none-at}
use Rattle.sb_refute.proofs.Holding.{stand-none}
use Rattle.sb_refute.proofs.evidence.Evidence.new.Goals as goal

pub invariant_of-result : goal.invariant_of-result
invariant_of-result c = rw (c.new-2.ensures, c.new-3.ensures, c.new-4.ensures.items) (stand-none c.new.result, refl)

pub returns-clause-backs : goal.returns-clause-backs
returns-clause-backs c = λ rs memo format. record {
  tracks = c.new.ensures rs memo format;
  atoms = ap (atoms_in rs) (sym c.new-2.ensures);
  clauses = sym (ap (λ (s : State). s.kept) c.new-3.ensures);
  asserted = λ place a h.
      absurd (none-some a (sym (ap (λ xs. asserted_at xs place) c.new-4.ensures.items ∙ none-at place) ∙ h));
}
