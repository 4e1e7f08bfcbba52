use Rattle.sb_refute.proofs.Words.{◌≡◌, ◌<◌, All, length, sym, subst, IfOk, gate_clauses, atom_at, Backing, backing_of, IsOfGates}
use Rattle.sb_refute.proofs.GateLines.{gates-found}
use Rattle.sb_refute.proofs.evidence.Evidence.next_clauses.Goals as goal

pub gate_clauses-requires : goal.gate_clauses-requires
gate_clauses-requires c =
    subst (λ n. n < length c.self.inside.parts.atoms) (sym c.of-id.ensures)
    (subst (λ (v : Backing). v.gates < length v.atoms) (sym c.self.view_is) c.requires)

pub returns : goal.returns
returns c =
    let i = backing_of c.self.inside.parts in
    let exact = subst (λ n. IfOk c.gate_clauses.result (λ found. found.items ≡ gate_clauses n (atom_at i.atoms n)))
    c.of-id.ensures c.gate_clauses.ensures.exact in
    record {
      exact = subst (λ (v : Backing). IfOk c.gate_clauses.result
          (λ found. found.items ≡ gate_clauses v.gates (atom_at v.atoms v.gates))) c.self.view_is exact;
      gates = subst (λ (v : Backing). IfOk c.gate_clauses.result (λ found. All (IsOfGates v.atoms) found.items))
          c.self.view_is
          (gates-found c.gate_clauses.result (λ found. found.items) i.atoms i.gates
          (subst (λ (v : Backing). v.gates < length v.atoms) (sym c.self.view_is) c.requires) c.self.invariant.0.earlier
          exact c.gate_clauses.ensures.ascending c.gate_clauses.ensures.gates);
    }
