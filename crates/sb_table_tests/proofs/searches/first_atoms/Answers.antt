use Rattle.std.proofs.Common.{◌≡◌, ℕ, true, List, subst, sym}
use Rattle.std.specs.List.{list_all}
use Rattle.sb_theory.specs.Memberships.{is_atom}
use Rattle.sb_table_tests.proofs.AtomLemmas.{below_atoms}
use Rattle.sb_table_tests.proofs.searches.first_atoms.Goals as goal

pub returns : goal.returns
returns c = λ table low.
    subst (λ (xs : List ℕ). list_all (is_atom table) xs ≡ true) (sym c.of.ensures)
    (below_atoms c.args.count c.loop-atom.atoms.keys table low c.loop-atom.invariant)
