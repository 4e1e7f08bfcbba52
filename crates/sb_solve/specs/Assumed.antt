-- The literals of assumptions, which assumptions a clause denies, and what truth values say of them.
use Rattle.std.specs.Prelude.{◌≡◌, ℕ, Bool, true, List, [], ◌∷◌, filter, slice_get, Some}
use Rattle.sb_solve.specs.Words.{Assumption, Atom, AtomOver, Kept, KeptClause, Lit, Regex, atoms_in, kept_at, list_all, list_any}
use Rattle.sb_script.specs.Verdicts.{each_once}
use Rattle.sb_rulebook.specs.Verdicts.{denies, is_same_truth}
use Rattle.sb_refute.specs.Assuming.{Says}
use Rattle.sb_solve.specs.Values.{truth_in}

-- one by one
abbrev pub AreSaid : List (AtomOver ℕ) → List Assumption → List Lit → Type 0
AreSaid atoms [] [] = Unit {0}
AreSaid atoms (a ∷ given) (l ∷ ls) = Says atoms a l × AreSaid atoms given ls
AreSaid atoms _ _ = ⊥

-- the truth values make each assumption true
abbrev pub make_true : List Bool → List Assumption → Bool
make_true truths given = list_all (λ a. is_same_truth (truth_in truths a.0) a.1) given

-- the assumptions that a literal of the clause denies, each once, in the order given
abbrev pub denied_in : List Atom → List Lit → List Assumption → List Assumption
denied_in atoms clause given =
    filter (λ a. list_any (λ l. denies l (slice_get atoms l.atom) a) clause) (each_once given)

-- each literal of the clause denies one of them
abbrev pub refutes_in : List Atom → List Lit → List Assumption → Bool
refutes_in atoms clause given = list_all (λ l. list_any (denies l (slice_get atoms l.atom)) given) clause

-- a clause of the number is kept, each literal of which denies one of the assumptions
pub record IsRefuting (given : List Assumption) (atoms : List (AtomOver ℕ)) (kept : Kept) (id : ℕ) : Type 0 where
  pub clause : KeptClause
  pub there : kept_at kept id ≡ Some clause
  pub refutes : (rs : List Regex) → refutes_in (atoms_in rs atoms) clause.literals given ≡ true
