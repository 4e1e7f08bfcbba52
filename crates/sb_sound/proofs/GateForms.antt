-- Which clauses are gates.
use Rattle.std.proofs.Common.{◌≡◌, ℕ, ℤ, pos, negsuc, true, not, ◌&&◌, List, [], ◌∷◌, slice_get, Option, Some, None, refl, ap, subst, sym, ◌∙◌, inl, inr}
use Rattle.std.specs.List.{list_any, Contains}
use Rattle.std.proofs.lemmas.Bool.{and_parts, and_from, or_cases, or_left, or_right, false≢true, eqb-true}
use Rattle.sb_lit.specs.declared.clause.Lit.{Lit}
use Rattle.sb_lit.specs.Clauses.{negation, is_among}
use Rattle.sb_lang.specs.OrderLaws.{OrderTellsApart}
use Rattle.sb_rulebook.specs.Atoms.{Atom, le_atom}
use Rattle.sb_rulebook.specs.Gates.{clauses_of, is_set_of, atom_of, differ_in_sign, has_both_signs, short_membership, is_short_membership, is_length_link, is_link_of, is_gate_of, is_gate}
use Rattle.sb_rulebook.proofs.CallerLemmas.{same_atom, atom_itself}
use Rattle.sb_script.specs.Sums.{length_of}
use Rattle.sb_sound.specs.ClauseForms.{of_sign, IsSetOf}
use Rattle.sb_sound.specs.GateLaws.{IsGate, of_both_signs, of_atom, of_length, GatesAreExact}
use Rattle.sb_sound.proofs.GateSayings.{is_first, clauses_begin}
use Rattle.sb_sound.proofs.PassFacts.{find_any, any_of, all_contained}
use Rattle.sb_sound.proofs.SetForms.{among_there, there_among, set_of, set_from, as_sign, other_sign, signs_differ, first_there, second_there}

-- From the test.

module _ (atoms : List Atom) (clause : List Lit) where
  said_form : (g : ℕ) (atom : Atom) → slice_get atoms g ≡ Some atom
      → list_any (is_set_of clause) (clauses_of g atom) ≡ true → IsGate atoms clause
  said_form g atom there h =
      let c = find_any (is_set_of clause) (clauses_of g atom) h in
      of_atom g atom c.element there c.within (set_of clause c.element c.passes)

  module _ (apart : OrderTellsApart) where
    link_form : (l m : Lit) (serial : ℕ) (k : ℤ) (o : Option Atom) → atom_of atoms l ≡ Some (le_atom
        (length_of serial) k)
        → atom_of atoms m ≡ o → is_short_membership serial k o ≡ true → differ_in_sign l m ≡ true
        → is_set_of clause (l ∷ m ∷ []) ≡ true → IsGate atoms clause
    link_form l m serial (pos n) (Some atom) there other short differ set =
        of_length l.atom m.atom serial n l.positive there
        (other ∙ ap Some (sym (same_atom apart (short_membership serial n) atom short)))
        (subst (λ k. IsSetOf clause (l ∷ k ∷ [])) (as_sign m (not l.positive) (other_sign l m differ))
        (set_of clause (l ∷ m ∷ []) set))
    link_form l m serial (pos n) None there other short differ set = absurd (false≢true short)
    link_form l m serial (negsuc n) o there other short differ set = absurd (false≢true short)

    length_form : (l : Lit) (serial : ℕ) (k : ℤ) → atom_of atoms l ≡ Some (le_atom (length_of serial) k)
        → is_length_link atoms clause l serial k ≡ true → IsGate atoms clause
    length_form l serial k there h =
        let m = find_any _ clause h in
        let parts = and_parts (is_short_membership serial k (atom_of atoms m.element)) _ m.passes in
        let rest = and_parts (differ_in_sign l m.element) (is_set_of clause (l ∷ m.element ∷ [])) parts.1 in
        link_form l m.element serial k (atom_of atoms m.element) there refl parts.0 rest.0 rest.1

    linked_form : (l : Lit) (atom : Atom) → atom_of atoms l ≡ Some atom → is_link_of atoms clause l atom ≡ true
        → IsGate atoms clause
    linked_form l (le_atom (length_of serial) k) there h = length_form l serial k there h
    linked_form l _ there h = absurd (false≢true h)

    gate_form_of : (l : Lit) (o : Option Atom) → atom_of atoms l ≡ o → is_gate_of atoms clause l o ≡ true
        → IsGate atoms clause
    gate_form_of l None there h = absurd (false≢true h)
    gate_form_of l (Some atom) there h =
        elim (or_cases (list_any (is_set_of clause) (clauses_of l.atom atom)) (is_link_of atoms clause l atom) h) [
          | inl said ↦ said_form l.atom atom there said
          | inr linked ↦ linked_form l atom there linked
        ]

    gate_form : is_gate atoms clause ≡ true → IsGate atoms clause
    gate_form h = elim (or_cases (has_both_signs clause) _ h) [
      | inl signs ↦
          let l = find_any (λ l. is_among clause (negation l)) clause signs in
          of_both_signs l.element l.within (among_there clause (negation l.element) l.passes)
      | inr gate ↦
          let l = find_any _ clause gate in gate_form_of l.element (atom_of atoms l.element) refl l.passes
    ]

  -- To the test.

  from_literal : (l : Lit) (atom : Atom) → Contains clause l → atom_of atoms l ≡ Some atom
      → is_gate_of atoms clause l (Some atom) ≡ true → is_gate atoms clause ≡ true
  from_literal l atom within there h =
      or_right (has_both_signs clause) _ (any_of (λ l. is_gate_of atoms clause l (atom_of atoms l)) clause l within
      (ap (is_gate_of atoms clause l) there ∙ h))

  from_said : (g : ℕ) (atom : Atom) (ls : List Lit) → is_first g ls ≡ true → slice_get atoms g ≡ Some atom
      → Contains (clauses_of g atom) ls → is_set_of clause ls ≡ true → is_gate atoms clause ≡ true
  from_said g atom [] first there said set = absurd (false≢true first)
  from_said g atom (m ∷ ms) first there said set =
      let same : g ≡ m.atom = eqb-true g m.atom first in
      from_literal m atom (first_there clause m ms (set_of clause (m ∷ ms) set))
      (subst (λ n. slice_get atoms n ≡ Some atom) same there)
      (or_left (list_any (is_set_of clause) (clauses_of m.atom atom)) (is_link_of atoms clause m atom)
      (any_of (is_set_of clause) (clauses_of m.atom atom) (m ∷ ms)
      (subst (λ n. Contains (clauses_of n atom) (m ∷ ms)) same said) set))

  -- a clause of an atom is a gate
  pub said_gate : (g : ℕ) (atom : Atom) (ls : List Lit) → slice_get atoms g ≡ Some atom
      → Contains (clauses_of g atom) ls → is_set_of clause ls ≡ true → is_gate atoms clause ≡ true
  said_gate g atom ls there said set =
      from_said g atom ls (all_contained (is_first g) (clauses_of g atom) ls (clauses_begin g atom) said) there said set

  module _ (apart : OrderTellsApart) where
    from_form : IsGate atoms clause → is_gate atoms clause ≡ true
    from_form (of_both_signs l here other) =
        or_left (has_both_signs clause) _ (any_of (λ l. is_among clause (negation l)) clause l here
        (there_among clause (negation l) other))
    from_form (of_atom g atom ls there said set) = said_gate g atom ls there said (set_from clause ls set)
    from_form (of_length o m serial n positive there other set) =
        let l = of_sign positive o in
        let k = of_sign (not positive) m in
        from_literal l (le_atom (length_of serial) (pos n)) (first_there clause l (k ∷ []) set) there
        (any_of (λ m. is_short_membership serial (pos n) (atom_of atoms m)
        && (differ_in_sign l m && is_set_of clause (l ∷ m ∷ []))) clause k (second_there clause l k [] set)
        (and_from (is_short_membership serial (pos n) (atom_of atoms k))
        (differ_in_sign l k && is_set_of clause (l ∷ k ∷ []))
        (ap (is_short_membership serial (pos n)) other ∙ atom_itself apart (short_membership serial n))
        (and_from (differ_in_sign l k) (is_set_of clause (l ∷ k ∷ [])) (signs_differ positive)
        (set_from clause (l ∷ k ∷ []) set))))

pub gates_exact : OrderTellsApart → GatesAreExact
gates_exact apart atoms clause = (gate_form atoms clause apart, from_form atoms clause apart)
