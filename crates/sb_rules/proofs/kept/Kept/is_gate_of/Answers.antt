use Rattle.std.proofs.Common.{List, [], ◌∷◌, map, if◌then◌else◌, subst, ap, ◌∙◌}
use Rattle.std.specs.List.{list_any}
use Rattle.sb_lit.specs.declared.clause.Lit.{Lit}
use Rattle.sb_lit.specs.Clauses.{negation}
use Rattle.sb_atoms.specs.GateClauses.{atom_at}
use Rattle.sb_atoms.specs.Numbered.{Names, atom_in}
use Rattle.sb_rulebook.specs.Atoms.{and_atom}
use Rattle.sb_rulebook.specs.Gates.{clauses_of, is_set_of}
use Rattle.sb_rules.proofs.Gated.{atom_there, brought_there, by_clauses, by_conjunction}
use Rattle.sb_rules.proofs.kept.Kept.is_gate_of.Goals as goal

pub returns-in-And : goal.returns-in-And
returns-in-And c =
    let atoms = c.args.self.now.atoms in
    let clause = c.args.clause.now in
    let l = c.args.literal in
    by_conjunction c.args.self.now.arena atoms clause l c.in-And.conjuncts.items c.in_ok-found.found
    (subst (λ n. Names atoms n (and_atom c.in-And.conjuncts.items)) c.of-id.ensures
    (subst (λ d. Names atoms c.of-id.result (atom_in d)) c.in-And.is c.describe.ensures.names))
    c.requires.signs c.requires.among
    (c.in_ok-found.ensures
    ∙ ap (λ (ls : List Lit). if l.positive then is_set_of clause (l ∷ map negation ls)
    else list_any (λ m. is_set_of clause (l ∷ m ∷ [])) ls) c.as_slice-conjuncts.ensures)

pub returns : goal.returns
returns c =
    let atoms = c.args.self.now.atoms in
    let l = c.args.literal in
    by_clauses c.args.self.now.arena atoms c.args.clause.now l (atom_at atoms l.atom) c.is_one_of.result
    (atom_there atoms l c.requires.known) (brought_there atoms l c.requires.known c.requires.brought)
    (c.is_one_of.ensures
    ∙ ap (list_any (is_set_of c.args.clause.now))
    (c.deref.ensures.value ∙ (c.in_ok-said.ensures ∙ ap (λ n. clauses_of n (atom_at atoms n)) c.of-id.ensures)))
