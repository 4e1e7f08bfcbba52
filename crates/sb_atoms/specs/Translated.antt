-- The literal of a term of Boolean structure, and the atoms that are added for it.
use Rattle.std.specs.Prelude.{◌≡◌, ◌≤◌, ℕ, Bool, true, false, ◌&&◌, if◌then◌else◌, List, length, Option, None}
use Rattle.sb_lit.specs.declared.clause.Lit.{Lit}
use Rattle.sb_meaning.specs.Terms.{Sort, Term, Terms, constant, apply, no_terms, with_term}
use Rattle.sb_rulebook.specs.Atoms.{Atom, AtomOver, is_well_formed}
use Rattle.sb_rulebook.specs.AtomRules.{is_declared, has_its_parts}
use Rattle.sb_rulebook.specs.Translation.{translation}
use Rattle.sb_script.specs.Brought.{is_structure}
use Rattle.sb_atoms.specs.Numbered.{Names}

-- The literal of a term of Boolean structure; of another there is none.
abbrev pub brought_translation : List Atom → Term → Option Lit
brought_translation atoms t = if is_structure t then translation atoms t else None

-- the term has no literal, whatever the table is
abbrev pub HasNoLiteral : Term → Type 0
HasNoLiteral t = (atoms : List Atom) → brought_translation atoms t ≡ None

-- each constant in the term is declared, with its sort
abbrev mutual
  pub has_declared : List Sort → Term → Bool
  has_declared sorts (constant serial sort) = is_declared sorts sort serial
  has_declared sorts (apply s terms) = have_declared sorts terms
  has_declared sorts _ = true

  pub have_declared : List Sort → Terms → Bool
  have_declared sorts no_terms = true
  have_declared sorts (with_term term terms) = has_declared sorts term && have_declared sorts terms

-- Each atom behind the old ones is well formed, and names no literal but of the atoms before it, and no constant that
-- the term does not have.
abbrev pub AreDefined : List (AtomOver ℕ) → List (AtomOver ℕ) → Term → Type 0
AreDefined old new t = (i : ℕ) (atom : AtomOver ℕ) → length old ≤ i → Names new i atom
    → (is_well_formed atom ≡ true) × ((sorts : List Sort) (before : List Atom) → has_declared sorts t ≡ true
    → length before ≡ i → has_its_parts sorts before atom ≡ true)
