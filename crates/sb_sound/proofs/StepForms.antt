-- Which clauses are steps.
use Rattle.std.proofs.Common.{◌≡◌, ℕ, Bool, true, false, not, ◌&&◌, ◌||◌, List, [], ◌∷◌, Option, Some, refl, sym, ap, ap₂, subst, ◌∙◌, inl, inr}
use Rattle.std.specs.List.{list_any, Contains}
use Rattle.std.specs.Cmp.Lexicographic.{pointwise}
use Rattle.std.proofs.lemmas.Bool.{and_parts, and_from, or_cases, or_left, or_right, false≢true, not-true}
use Rattle.sb_lit.specs.declared.clause.Lit.{Lit}
use Rattle.sb_lang.specs.Regex.{Regex}
use Rattle.sb_lang.specs.Order.{regex_eq}
use Rattle.sb_lang.specs.OrderLaws.{OrderTellsApart}
use Rattle.sb_lang.specs.Constructors.{mkpath}
use Rattle.sb_lang.specs.Derivative.{nullable, nd_along}
use Rattle.sb_rulebook.specs.Atoms.{Atom, in_atom, is_same_piece, is_same_atom}
use Rattle.sb_rulebook.specs.Gates.{is_set_of, atom_of, differ_in_sign}
use Rattle.sb_rulebook.specs.Splits.{is_split, is_cut, is_end, is_split_by, is_step_of, is_step}
use Rattle.sb_rulebook.proofs.CallerLemmas.{same_pieces, same_regex, same_atom, atom_itself}
use Rattle.sb_script.specs.Pieces.{Piece, constant_piece, word_piece}
use Rattle.sb_sound.specs.ClauseForms.{of_sign, plus, minus, IsSetOf}
use Rattle.sb_sound.specs.MembershipLaws.{IsStep, of_nullable, of_not_nullable, of_word, of_constant, StepsAreExact}
use Rattle.sb_sound.proofs.PassFacts.{find_any, any_of}
use Rattle.sb_sound.proofs.SetForms.{set_of, set_from, as_sign, other_sign, signs_differ, first_there, second_there, third_there, set_by_first}

-- the same pieces in the same regex
same_membership : OrderTellsApart → (ps qs : List Piece) (r q : Regex) → pointwise is_same_piece ps qs ≡ true
    → regex_eq r q ≡ true → in_atom qs q ≡ in_atom ps r
same_membership apart ps qs r q h k = ap₂ in_atom (sym (same_pieces ps qs h)) (sym (same_regex apart r q k))

membership_itself : OrderTellsApart → (ps : List Piece) (r : Regex)
    → (pointwise is_same_piece ps ps ≡ true) × (regex_eq r r ≡ true)
membership_itself apart ps r = and_parts (pointwise is_same_piece ps ps) (regex_eq r r) (atom_itself apart
    (in_atom ps r))

module _ (atoms : List Atom) (clause : List Lit) where
  end_form : (a : Lit) (s : Bool) (o : Option Atom) → a.positive ≡ s → atom_of atoms a ≡ o → is_end s o ≡ true
      → is_set_of clause (a ∷ []) ≡ true → IsStep atoms clause
  end_form a true (Some (in_atom [] r)) sign there h set =
      of_nullable a.atom r there h (set_by_first clause a (plus a.atom) [] (as_sign a true sign) set)
  end_form a false (Some (in_atom [] r)) sign there h set =
      of_not_nullable a.atom r there (not-true (nullable r) h)
      (set_by_first clause a (minus a.atom) [] (as_sign a false sign) set)
  end_form a s _ sign there h set = absurd (false≢true h)

  module _ (apart : OrderTellsApart) where
    word_form : (a c : Lit) (o p : Option Atom) → atom_of atoms a ≡ o → atom_of atoms c ≡ p → is_cut o p ≡ true
        → IsSetOf clause (a ∷ of_sign (not a.positive) c.atom ∷ []) → IsStep atoms clause
    word_form a c (Some (in_atom (word_piece w ∷ ps) r)) (Some (in_atom qs q)) there other h set =
        let parts = and_parts (pointwise is_same_piece ps qs) (regex_eq (nd_along r w) q) h in
        of_word a.atom c.atom w ps r a.positive there
        (other ∙ ap Some (same_membership apart ps qs (nd_along r w) q parts.0 parts.1)) set
    word_form a c _ _ there other h set = absurd (false≢true h)

    constant_form : (a b c : Lit) (o n p : Option Atom) → atom_of atoms a ≡ o → atom_of atoms b ≡ n
        → atom_of atoms c ≡ p → is_split o n p ≡ true
        → IsSetOf clause (minus b.atom ∷ a ∷ of_sign (not a.positive) c.atom ∷ []) → IsStep atoms clause
    constant_form a b c (Some (in_atom (constant_piece x ∷ ps) r)) (Some front) (Some
        (in_atom qs q)) there between other
        h set =
        let path = in_atom (constant_piece x ∷ []) (mkpath r q) in
        let parts = and_parts (pointwise is_same_piece ps qs) (is_same_atom path front) h in
        of_constant a.atom b.atom c.atom x ps r q a.positive there
        (between ∙ ap Some (sym (same_atom apart path front parts.1)))
        (other ∙ ap (λ ts. Some (in_atom ts q)) (sym (same_pieces ps qs parts.0))) set
    constant_form a b c _ _ _ there between other h set = absurd (false≢true h)

    split_form : (a c : Lit) → c ≡ of_sign (not a.positive) c.atom → is_split_by atoms clause a c ≡ true
        → IsStep atoms clause
    split_form a c sign h =
        let b = find_any _ clause h in
        let split = is_split (atom_of atoms a) (atom_of atoms b.element) (atom_of atoms c) in
        let one = and_parts (not b.element.positive) (is_set_of clause (b.element ∷ a ∷ c ∷ []) && split) b.passes in
        let two = and_parts (is_set_of clause (b.element ∷ a ∷ c ∷ [])) split one.1 in
        constant_form a b.element c (atom_of atoms a) (atom_of atoms b.element) (atom_of atoms c) refl refl refl two.1
        (subst (λ m. IsSetOf clause (minus b.element.atom ∷ a ∷ m ∷ [])) sign
        (set_by_first clause b.element (minus b.element.atom) (a ∷ c ∷ [])
        (as_sign b.element false (not-true b.element.positive one.0)) two.0))

    step_form_of : (a c : Lit) → is_step_of atoms clause a c ≡ true → IsStep atoms clause
    step_form_of a c h =
        let set = is_set_of clause (a ∷ c ∷ []) in
        let is_cut_of = is_cut (atom_of atoms a) (atom_of atoms c) in
        let one = and_parts (differ_in_sign a c) (set && is_cut_of || is_split_by atoms clause a c) h in
        let sign = as_sign c (not a.positive) (other_sign a c one.0) in
        elim (or_cases (set && is_cut_of) (is_split_by atoms clause a c) one.1) [
          | inl cut ↦
              let two = and_parts set is_cut_of cut in
              word_form a c (atom_of atoms a) (atom_of atoms c) refl refl two.1
              (subst (λ m. IsSetOf clause (a ∷ m ∷ [])) sign (set_of clause (a ∷ c ∷ []) two.0))
          | inr split ↦ split_form a c sign split
        ]

    step_form : is_step atoms clause ≡ true → IsStep atoms clause
    step_form h =
        let a = find_any _ clause h in by a.element a.passes
      where
        by : (a : Lit) → (is_set_of clause (a ∷ []) && is_end a.positive (atom_of atoms a)
            || list_any (is_step_of atoms clause a) clause) ≡ true → IsStep atoms clause
        by a here =
            let set = is_set_of clause (a ∷ []) in
            let ends = is_end a.positive (atom_of atoms a) in
            elim (or_cases (set && ends) (list_any (is_step_of atoms clause a) clause) here) [
              | inl end ↦
                  let one = and_parts set ends end in
                  end_form a a.positive (atom_of atoms a) refl refl one.1 one.0
              | inr more ↦
                  let c = find_any (is_step_of atoms clause a) clause more in step_form_of a c.element c.passes
            ]

  -- To the test.

  from_end : (a : Lit) (r : Regex) → atom_of atoms a ≡ Some (in_atom [] r) → is_end a.positive (Some (in_atom [] r))
      ≡ true
      → IsSetOf clause (a ∷ []) → is_step atoms clause ≡ true
  from_end a r there h set =
      any_of (λ a. is_set_of clause (a ∷ []) && is_end a.positive (atom_of atoms a)
      || list_any (is_step_of atoms clause a) clause) clause a (first_there clause a [] set)
      (or_left (is_set_of clause (a ∷ []) && is_end a.positive (atom_of atoms a)) _
      (and_from (is_set_of clause (a ∷ [])) (is_end a.positive (atom_of atoms a)) (set_from clause (a ∷ []) set)
      (ap (is_end a.positive) there ∙ h)))

  from_step_of : (a c : Lit) → Contains clause a → Contains clause c → differ_in_sign a c ≡ true
      → (is_set_of clause (a ∷ c ∷ []) && is_cut (atom_of atoms a) (atom_of atoms c) || is_split_by atoms clause a c)
      ≡ true
      → is_step atoms clause ≡ true
  from_step_of a c within other differ h =
      any_of (λ a. is_set_of clause (a ∷ []) && is_end a.positive (atom_of atoms a)
      || list_any (is_step_of atoms clause a) clause) clause a within
      (or_right (is_set_of clause (a ∷ []) && is_end a.positive (atom_of atoms a)) _
      (any_of (is_step_of atoms clause a) clause c other
      (and_from (differ_in_sign a c) _ differ h)))

  module _ (apart : OrderTellsApart) where
    from_word : (a c : Lit) (w : List ℕ) (ps : List Piece) (r : Regex)
        → atom_of atoms a ≡ Some (in_atom (word_piece w ∷ ps) r) → atom_of atoms c ≡ Some (in_atom ps (nd_along r w))
        → differ_in_sign a c ≡ true → IsSetOf clause (a ∷ c ∷ []) → is_step atoms clause ≡ true
    from_word a c w ps r there other differ set =
        let itself = membership_itself apart ps (nd_along r w) in
        from_step_of a c (first_there clause a (c ∷ []) set) (second_there clause a c [] set) differ
        (or_left (is_set_of clause (a ∷ c ∷ []) && is_cut (atom_of atoms a) (atom_of atoms c)) _
        (and_from (is_set_of clause (a ∷ c ∷ [])) (is_cut (atom_of atoms a) (atom_of atoms c))
        (set_from clause (a ∷ c ∷ []) set) (ap₂ is_cut there other
        ∙ and_from (pointwise is_same_piece ps ps) (regex_eq (nd_along r w) (nd_along r w)) itself.0 itself.1)))

    from_constant : (a c : Lit) (b x : ℕ) (ps : List Piece) (r q : Regex)
        → atom_of atoms a ≡ Some (in_atom (constant_piece x ∷ ps) r)
        → atom_of atoms (minus b) ≡ Some (in_atom (constant_piece x ∷ []) (mkpath r q))
        → atom_of atoms c ≡ Some (in_atom ps q) → differ_in_sign a c ≡ true → IsSetOf clause (minus b ∷ a ∷ c ∷ [])
        → is_step atoms clause ≡ true
    from_constant a c b x ps r q there between other differ set =
        let path = in_atom (constant_piece x ∷ []) (mkpath r q) in
        let split = is_split (atom_of atoms a) (atom_of atoms (minus b)) (atom_of atoms c) in
        let itself = membership_itself apart ps q in
        from_step_of a c (second_there clause (minus b) a (c ∷ []) set) (third_there clause (minus b) a c [] set) differ
        (or_right (is_set_of clause (a ∷ c ∷ []) && is_cut (atom_of atoms a) (atom_of atoms c)) _
        (any_of (λ m. not m.positive && (is_set_of clause (m ∷ a ∷ c ∷ [])
        && is_split (atom_of atoms a) (atom_of atoms m) (atom_of atoms c))) clause (minus b)
        (first_there clause (minus b) (a ∷ c ∷ []) set)
        (and_from (is_set_of clause (minus b ∷ a ∷ c ∷ [])) split (set_from clause (minus b ∷ a ∷ c ∷ []) set)
        (ap₂ (λ o p. is_split o (atom_of atoms (minus b)) p) there other
        ∙ ap (λ n. is_split (Some (in_atom (constant_piece x ∷ ps) r)) n (Some (in_atom ps q))) between
        ∙ and_from (pointwise is_same_piece ps ps) (is_same_atom path path) itself.0 (atom_itself apart path)))))

    from_step : IsStep atoms clause → is_step atoms clause ≡ true
    from_step (of_nullable a r there h set) = from_end (plus a) r there h set
    from_step (of_not_nullable a r there h set) = from_end (minus a) r there (ap not h) set
    from_step (of_word a c w ps r positive there other set) =
        from_word (of_sign positive a) (of_sign (not positive) c) w ps r there other (signs_differ positive) set
    from_step (of_constant a b c x ps r q positive there between other set) =
        from_constant (of_sign positive a) (of_sign (not positive) c) b x ps r q there between other
        (signs_differ positive) set

pub steps_exact : OrderTellsApart → StepsAreExact
steps_exact apart atoms clause = (step_form atoms clause apart, from_step atoms clause apart)
