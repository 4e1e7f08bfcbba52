use Rattle.std.proofs.Common.{List, ◌++◌, sym, ap, ◌∙◌}
use Rattle.sb_lit.specs.declared.clause.Lit.{Lit}
use Rattle.sb_rulebook.specs.Gates.{clauses_of}
use Rattle.sb_proof.specs.Lines.{atom_in}
use Rattle.sb_atoms.proofs.GateFacts.{names_at}
use Rattle.sb_atoms.proofs.gates.said_clauses.Goals as goal

pub returns : goal.returns
returns c =
    let a = atom_in c.describe.result.now in
    c.in_ok-say_all.ensures
    ∙ ap (λ (xs : List (List Lit)). xs ++ clauses_of c.args.atom a) c.new-said.ensures.items
    ∙ ap (clauses_of c.args.atom) (sym (names_at c.args.atoms.now c.args.atom a c.describe.ensures.names))
