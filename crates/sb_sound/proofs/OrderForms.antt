-- Which clauses are of the order of bounds.
use Rattle.std.proofs.Common.{◌≡◌, ℕ, ℤ, pos, true, false, not, ◌&&◌, int_lt, List, [], ◌∷◌, Option, Some, refl, sym, ap, subst, ◌∙◌, arith, inl, inr}
use Rattle.std.specs.Int.Signed.{◌<ℤ◌}
use Rattle.std.specs.List.{Contains}
use Rattle.std.proofs.lemmas.Bool.{and_parts, and_from, or_cases, or_left, or_right, false≢true, not-true}
use Rattle.std.proofs.lemmas.Int.{ints}
use Rattle.sb_lit.specs.declared.clause.Lit.{Lit}
use Rattle.sb_lang.specs.OrderLaws.{OrderTellsApart}
use Rattle.sb_rulebook.specs.Atoms.{Atom, le_atom}
use Rattle.sb_rulebook.specs.Gates.{is_set_of, atom_of}
use Rattle.sb_rulebook.specs.BoundClauses.{is_lesser_bound, is_no_length, is_order_at, is_order}
use Rattle.sb_rulebook.proofs.CallerLemmas.{same_variable, atom_itself}
use Rattle.sb_script.specs.Sums.{Variable, length_of, is_same_variable}
use Rattle.sb_sound.specs.ClauseForms.{plus, minus, IsSetOf}
use Rattle.sb_sound.specs.BoundLaws.{IsOrder, of_greater, of_no_length, OrdersAreExact}
use Rattle.sb_sound.proofs.PassFacts.{find_any, any_of}
use Rattle.sb_sound.proofs.SetForms.{set_from, as_sign, first_there, second_there, set_by_first}

pub below_by_test : (j k : ℤ) → int_lt j k ≡ true → j <ℤ k
below_by_test j k h = grind (arith, ints)

pub test_by_below : (j k : ℤ) → j <ℤ k → int_lt j k ≡ true
test_by_below j k h = grind (arith, ints)

variable_itself : OrderTellsApart → (x : Variable) → is_same_variable x x ≡ true
variable_itself apart x = (and_parts (is_same_variable x x) _ (atom_itself apart (le_atom x (pos 0)))).0

module _ (atoms : List Atom) (clause : List Lit) where
  -- From the test.

  no_length_form : (a : Lit) (o : Option Atom) → atom_of atoms a ≡ o → is_no_length o ≡ true
      → IsSetOf clause (minus a.atom ∷ []) → IsOrder atoms clause
  no_length_form a (Some (le_atom (length_of serial) k)) there h set =
      of_no_length a.atom serial k there (below_by_test k (pos 0) h) set
  no_length_form a _ there h set = absurd (false≢true h)

  greater_form : (a b : Lit) (o p : Option Atom) → atom_of atoms a ≡ o → atom_of atoms b ≡ p
      → is_lesser_bound o p ≡ true → IsSetOf clause (minus a.atom ∷ plus b.atom ∷ []) → IsOrder atoms clause
  greater_form a b (Some (le_atom x j)) (Some (le_atom y k)) there other h set =
      let parts = and_parts (is_same_variable x y) (int_lt j k) h in
      of_greater a.atom b.atom x j k there
      (other ∙ ap (λ z. Some (le_atom z k)) (sym (same_variable x y parts.0))) (below_by_test j k parts.1) set
  greater_form a b _ _ there other h set = absurd (false≢true h)

  order_form_at : (a : Lit) → a ≡ minus a.atom → is_order_at atoms clause a ≡ true → IsOrder atoms clause
  order_form_at a sign h = elim (or_cases (is_set_of clause (a ∷ []) && is_no_length (atom_of atoms a)) _ h) [
    | inl short ↦
        let parts = and_parts (is_set_of clause (a ∷ [])) (is_no_length (atom_of atoms a)) short in
        no_length_form a (atom_of atoms a) refl parts.1 (set_by_first clause a (minus a.atom) [] sign parts.0)
    | inr two ↦
        let b = find_any _ clause two in
        let parts = and_parts b.element.positive _ b.passes in
        let rest = and_parts (is_set_of clause (a ∷ b.element ∷ [])) _ parts.1 in
        greater_form a b.element (atom_of atoms a) (atom_of atoms b.element) refl refl rest.1
        (subst (λ m. IsSetOf clause (minus a.atom ∷ m ∷ [])) (as_sign b.element true parts.0)
        (set_by_first clause a (minus a.atom) (b.element ∷ []) sign rest.0))
  ]

  order_form : is_order atoms clause ≡ true → IsOrder atoms clause
  order_form h =
      let a = find_any _ clause h in
      let parts = and_parts (not a.element.positive) (is_order_at atoms clause a.element) a.passes in
      order_form_at a.element (as_sign a.element false (not-true a.element.positive parts.0)) parts.1

  -- To the test.

  from_order_at : (a : ℕ) → Contains clause (minus a) → is_order_at atoms clause (minus a) ≡ true
      → is_order atoms clause ≡ true
  from_order_at a within h = any_of (λ a. not a.positive && is_order_at atoms clause a) clause (minus a) within h

  module _ (apart : OrderTellsApart) where
    from_order : IsOrder atoms clause → is_order atoms clause ≡ true
    from_order (of_no_length a serial k there low set) =
        from_order_at a (first_there clause (minus a) [] set)
        (or_left (is_set_of clause (minus a ∷ []) && is_no_length (atom_of atoms (minus a))) _
        (and_from (is_set_of clause (minus a ∷ [])) (is_no_length (atom_of atoms (minus a)))
        (set_from clause (minus a ∷ []) set) (ap is_no_length there ∙ test_by_below k (pos 0) low)))
    from_order (of_greater a b x j k there other low set) =
        from_order_at a (first_there clause (minus a) (plus b ∷ []) set)
        (or_right (is_set_of clause (minus a ∷ []) && is_no_length (atom_of atoms (minus a))) _
        (any_of (λ m. m.positive && (is_set_of clause (minus a ∷ m ∷ [])
        && is_lesser_bound (atom_of atoms (minus a)) (atom_of atoms m))) clause (plus b)
        (second_there clause (minus a) (plus b) [] set)
        (and_from (is_set_of clause (minus a ∷ plus b ∷ []))
        (is_lesser_bound (atom_of atoms (minus a)) (atom_of atoms (plus b)))
        (set_from clause (minus a ∷ plus b ∷ []) set)
        (ap (λ o. is_lesser_bound o (atom_of atoms (plus b))) there
        ∙ ap (λ o. is_lesser_bound (Some (le_atom x j)) o) other
        ∙ and_from (is_same_variable x x) (int_lt j k) (variable_itself apart x) (test_by_below j k low)))))

pub orders_exact : OrderTellsApart → OrdersAreExact
orders_exact apart atoms clause = (order_form atoms clause, from_order atoms clause apart)
