-- Gates are true, and which clauses are gates.
use Rattle.std.specs.Prelude.{◌≡◌, ◌↔◌, ℕ, pos, Bool, true, not, if◌then◌else◌, List, [], ◌∷◌, slice_get, Some, Contains}
use Rattle.std.specs.List.{list_all, list_any}
use Rattle.sb_lit.specs.declared.clause.Lit.{Lit}
use Rattle.sb_lit.specs.Clauses.{negation}
use Rattle.sb_lang.specs.Constructors.{any_character, mkrep}
use Rattle.sb_meaning.specs.Values.{Valuation}
use Rattle.sb_script.specs.Pieces.{constant_piece}
use Rattle.sb_script.specs.Sums.{length_of}
use Rattle.sb_rulebook.specs.Atoms.{Atom, AtomOver, in_atom, le_atom, and_atom, iff_atom, literal_holds, clause_holds}
use Rattle.sb_rulebook.specs.Gates.{gate, clauses_of, is_gate}
use Rattle.sb_sound.specs.Tables.{is_table, HasWords}
use Rattle.sb_sound.specs.ClauseForms.{of_sign, IsSetOf}

abbrev pub GatesHold : Type 0
GatesHold = (v : Valuation) (atoms : List Atom) (clause : List Lit) → is_table atoms ≡ true → HasWords v
    → is_gate atoms clause ≡ true → clause_holds v atoms clause ≡ true

-- The forms of gates.
pub data IsGate (atoms : List Atom) (clause : List Lit) : Type 0 where
  -- a literal and its negation are in the clause
  of_both_signs : (l : Lit) → Contains clause l → Contains clause (negation l) → IsGate atoms clause
  -- the clause is one of an atom
  of_atom : (g : ℕ) (atom : Atom) (ls : List Lit) → slice_get atoms g ≡ Some atom → Contains (clauses_of g atom) ls
      → IsSetOf clause ls → IsGate atoms clause
  -- (-o m) or (o -m), for o = the constant has at most n characters, and m = it is one of the words of so many
  of_length : (o m serial n : ℕ) (positive : Bool) → slice_get atoms o ≡ Some (le_atom (length_of serial) (pos n))
      → slice_get atoms m ≡ Some (in_atom (constant_piece serial ∷ []) (mkrep any_character 0 n))
      → IsSetOf clause (of_sign positive o ∷ of_sign (not positive) m ∷ []) → IsGate atoms clause

-- the rule accepts these and no others
abbrev pub GatesAreExact : Type 0
GatesAreExact = (atoms : List Atom) (clause : List Lit) → (is_gate atoms clause ≡ true) ↔ IsGate atoms clause

-- What the clauses of an atom say: that it is as true as what it says of its literals.

-- both are true, or both false
abbrev pub are_alike : Bool → Bool → Bool
are_alike a b = if a then b else not b

-- each clause is true where the atoms have these truths
abbrev pub all_hold : List Bool → List (List Lit) → Bool
all_hold truths clauses = list_all (list_any (literal_holds truths)) clauses

-- the atom is as true as what it says of its literals
abbrev pub is_as_it_says : {R : Type 0} → List Bool → ℕ → AtomOver R → Bool
is_as_it_says truths atom (and_atom ls) =
    are_alike (literal_holds truths (gate atom true)) (list_all (literal_holds truths) ls)
is_as_it_says truths atom (iff_atom l m) =
    are_alike (literal_holds truths (gate atom true)) (are_alike (literal_holds truths l) (literal_holds truths m))
is_as_it_says truths atom _ = true
