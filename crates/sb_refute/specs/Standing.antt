-- What is known of all that stands in a proof.
use Rattle.std.specs.Prelude.{◌≡◌, ℕ, ◌<◌, ◌≤◌, true, length, Some}
use Rattle.sb_clauses.specs.Propagation.{has_room_for}
use Rattle.sb_rulebook.specs.Atoms.{AtomOver, is_well_formed}
use Rattle.sb_atoms.specs.Numbered.{NameEarlier, Names}
use Rattle.sb_refute.specs.Backing.{Backing, HasGates, IsLowestEmpty, asserted_at}
use Rattle.sb_refute.specs.declared.evidence.Asserted.{Asserted}

-- What is known of the atoms, the clauses, the assertions, the empty clause and the gates that stand in a proof: each
-- atom names no literal but of atoms before it, and is well formed; the atoms of all literals are in the table, and no
-- clause without literals is below the level of the empty clause.
pub record Stand (e : Backing) : Type 0 where
  pub of_atoms : (place : ℕ) (a : Asserted) → asserted_at e.asserted place ≡ Some a → a.literal.atom < length e.atoms
  pub earlier : NameEarlier 0 e.atoms
  pub formed : (i : ℕ) (a : AtomOver ℕ) → Names e.atoms i a → is_well_formed a ≡ true
  pub known : has_room_for (length e.atoms) e.kept ≡ true
  pub lowest : IsLowestEmpty e.kept e.refuted
  pub gates_known : e.gates ≤ length e.atoms
  pub gated : HasGates e.gates e.atoms e.kept
