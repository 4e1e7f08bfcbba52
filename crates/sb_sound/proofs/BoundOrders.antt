-- The clauses of two bounds, or of a length below 0, are true.
use Rattle.std.proofs.Common.{◌≡◌, ℕ, ℤ, pos, Bool, true, false, not, ◌&&◌, ◌||◌, int_lt, int_le, List, [], ◌∷◌, length, Option, Some, refl, sym, ap, ◌∙◌, arith, inl, inr}
use Rattle.std.specs.List.{list_any}
use Rattle.std.proofs.lemmas.Bool.{and_parts, or_cases, or_left, false≢true}
use Rattle.std.proofs.lemmas.Int.{ints}
use Rattle.sb_lit.specs.declared.clause.Lit.{Lit}
use Rattle.sb_meaning.specs.Values.{Valuation}
use Rattle.sb_rulebook.specs.Atoms.{Atom, le_atom, value_of, word_at, literal_holds, truths_of, clause_holds}
use Rattle.sb_rulebook.specs.Gates.{is_set_of, atom_of}
use Rattle.sb_rulebook.specs.BoundClauses.{is_lesser_bound, is_no_length, is_order_at}
use Rattle.sb_sound.specs.BoundLaws.{OrdersHold}
use Rattle.sb_sound.proofs.PassFacts.{find_any}
use Rattle.sb_sound.proofs.SameParts.{same_value}
use Rattle.sb_sound.proofs.TableFacts.{literal_holds-atom}
use Rattle.sb_sound.proofs.ClauseSets.{any_of_set, if_positive, if_negative}
use Rattle.sb_script.specs.Sums.{Variable, length_of, is_same_variable}

-- what is at most the lesser number is at most the greater one
lesser_denied : (x j k : ℤ) → int_lt j k ≡ true → (not (int_le x j) || (int_le x k || false)) ≡ true
lesser_denied x j k h = step (int_le x j) refl
  where
    step : (b : Bool) → int_le x j ≡ b → (not b || (int_le x k || false)) ≡ true
    step false low = refl
    step true low = or_left (int_le x k) false (grind (arith, ints))

no_length : (n : ℕ) (k : ℤ) → int_lt k (pos 0) ≡ true → int_le (pos n) k ≡ false
no_length n k h = grind (arith, ints)

-- the truth of a negative literal, and of a positive one
denied : (v : Valuation) (atoms : List Atom) (l : Lit) (x : Variable) (k : ℤ) → not l.positive ≡ true
    → atom_of atoms l ≡ Some (le_atom x k) → literal_holds (truths_of v atoms) l ≡ not (int_le (value_of v x) k)
denied v atoms l x k sign there =
    literal_holds-atom v atoms l (le_atom x k) there ∙ if_negative l.positive (int_le (value_of v x) k) sign

held : (v : Valuation) (atoms : List Atom) (l : Lit) (x : Variable) (k : ℤ) → l.positive ≡ true
    → atom_of atoms l ≡ Some (le_atom x k) → literal_holds (truths_of v atoms) l ≡ int_le (value_of v x) k
held v atoms l x k sign there =
    literal_holds-atom v atoms l (le_atom x k) there ∙ if_positive l.positive (int_le (value_of v x) k) sign

no_length_holds : (v : Valuation) (atoms : List Atom) (a : Lit) (o : Option Atom) → atom_of atoms a ≡ o
    → not a.positive ≡ true → is_no_length o ≡ true → literal_holds (truths_of v atoms) a ≡ true
no_length_holds v atoms a (Some (le_atom (length_of serial) k)) there sign h =
    denied v atoms a (length_of serial) k sign there ∙ ap not (no_length (length (word_at v serial)) k h)
no_length_holds v atoms a _ there sign h = absurd (false≢true h)

lesser_holds : (v : Valuation) (atoms : List Atom) (a b : Lit) (o p : Option Atom) → atom_of atoms a ≡ o
    → atom_of atoms b ≡ p → not a.positive ≡ true → b.positive ≡ true → is_lesser_bound o p ≡ true
    → list_any (literal_holds (truths_of v atoms)) (a ∷ b ∷ []) ≡ true
lesser_holds v atoms a b (Some (le_atom x j)) (Some (le_atom y k)) there other sign plus h =
    let parts = and_parts (is_same_variable x y) (int_lt j k) h in
    let first = denied v atoms a x j sign there in
    let second = held v atoms b y k plus other ∙ ap (λ n. int_le n k) (sym (same_value v x y parts.0)) in
    ap (λ t. t || (literal_holds (truths_of v atoms) b || false)) first
    ∙ ap (λ t. not (int_le (value_of v x) j) || (t || false)) second
    ∙ lesser_denied (value_of v x) j k parts.1
lesser_holds v atoms a b _ _ there other sign plus h = absurd (false≢true h)

order_holds_at : (v : Valuation) (atoms : List Atom) (clause : List Lit) (a : Lit) → not a.positive ≡ true
    → is_order_at atoms clause a ≡ true → clause_holds v atoms clause ≡ true
order_holds_at v atoms clause a sign h =
    elim (or_cases (is_set_of clause (a ∷ []) && is_no_length (atom_of atoms a)) _ h) [
      | inl short ↦
          let parts = and_parts (is_set_of clause (a ∷ [])) (is_no_length (atom_of atoms a)) short in
          any_of_set (literal_holds (truths_of v atoms)) clause (a ∷ []) parts.0
          (or_left (literal_holds (truths_of v atoms) a) false
          (no_length_holds v atoms a (atom_of atoms a) refl sign parts.1))
      | inr two ↦
          let b = find_any _ clause two in
          let parts = and_parts b.element.positive _ b.passes in
          let rest = and_parts (is_set_of clause (a ∷ b.element ∷ [])) _ parts.1 in
          any_of_set (literal_holds (truths_of v atoms)) clause (a ∷ b.element ∷ []) rest.0
          (lesser_holds v atoms a b.element (atom_of atoms a) (atom_of atoms b.element) refl refl sign parts.0 rest.1)
    ]

pub orders_hold : OrdersHold
orders_hold v atoms clause h =
    let a = find_any _ clause h in
    let parts = and_parts (not a.element.positive) (is_order_at atoms clause a.element) a.passes in
    order_holds_at v atoms clause a.element parts.0 parts.1
