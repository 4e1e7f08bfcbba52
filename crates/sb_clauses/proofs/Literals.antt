-- Clauses where some literals are true.
use Rattle.std.proofs.Common.{◌≡◌, ℕ, zero, suc, ◌<◌, Bool, true, false, not, cond, ◌&&◌, eqb, List, [], ◌∷◌, length, get_or, take, Option, Some, None, refl, sym, ◌∙◌, ap, inl, inr, arith}
use mathlib.Core.Bool.{beq}
use Rattle.std.specs.List.{list_all}
use Rattle.std.proofs.lemmas.Bool.{false≢true, and_parts, and_from, or_left, or_right, or_from, or_cases, not_from_false, false_from_ne_true}
use Rattle.std.proofs.lemmas.List.Folds.{list_any_at}
use Rattle.sb_lit.specs.declared.clause.Lit.{Lit}
use Rattle.sb_lit.specs.Clauses.{is_same_literal, is_among, is_true_under, is_false_under, is_open_under, value_under, is_false_clause, leaves_only}
use Rattle.sb_lit.proofs.CallerLemmas.{is_same_literal-true, is_same_literal-self, is_same_literal-beq, all_among, open-not_false, open-not_true}
use Rattle.sb_trail.specs.Assignments.{IsConsistent}
use Rattle.sb_clauses.specs.Looking.{is_or_false}
use Rattle.sb_clauses.specs.Examining.{IsIdle}

-- where a test whether they are equal fails
pub other_by_eq : (l m : Lit) → (eqb l.atom m.atom && beq l.positive m.positive) ≡ false → is_same_literal l m ≡ false
other_by_eq l m h = sym (is_same_literal-beq l m) ∙ h

-- what a value says
value_true : (t f : Bool) → ◌≡◌ {A = Option Bool} (cond t (Some true) (cond f (Some false) None)) (Some true) → t ≡ true
value_true true f h = refl
value_true false true h = absurd (Prim.cc)
value_true false false h = absurd (Prim.cc)

value_false : (t f : Bool) → ◌≡◌ {A = Option Bool} (cond t (Some true) (cond f (Some false) None)) (Some false)
    → f ≡ true
value_false true f h = absurd (Prim.cc)
value_false false true h = refl
value_false false false h = absurd (Prim.cc)

value_none : (t f : Bool) → ◌≡◌ {A = Option Bool} (cond t (Some true) (cond f (Some false) None)) None
    → (t ≡ false) × (f ≡ false)
value_none true f h = absurd (Prim.cc)
value_none false true h = absurd (Prim.cc)
value_none false false h = (refl, refl)

pub all_weaker : (p q : Lit → Bool) → ((m : Lit) → p m ≡ true → q m ≡ true) → (clause : List Lit)
    → list_all p clause ≡ true → list_all q clause ≡ true
all_weaker p q weaker [] h = refl
all_weaker p q weaker (m ∷ ms) h =
    let parts = and_parts (p m) (list_all p ms) h in
    and_from (q m) (list_all q ms) (weaker m parts.0) (all_weaker p q weaker ms parts.1)

-- a list with a literal is not empty
pub some_among : (clause : List Lit) (l : Lit) → is_among clause l ≡ true → 0 < length clause
some_among [] l among = absurd (false≢true among)
some_among (x ∷ xs) l among = omega arith

-- what fails for a literal of a clause does not hold of all
not_all : (p : Lit → Bool) (clause : List Lit) (l : Lit) → is_among clause l ≡ true → p l ≡ false
    → list_all p clause ≡ false
not_all p clause l among fails =
    false_from_ne_true (list_all p clause) (λ all. false≢true (sym fails ∙ all_among p clause l all among))

module _ (held : List Lit) where
  pub true_by_value : (l : Lit) → value_under held l ≡ Some true → is_true_under held l ≡ true
  true_by_value l h = value_true (is_true_under held l) (is_false_under held l) h

  pub false_by_value : (l : Lit) → value_under held l ≡ Some false → is_false_under held l ≡ true
  false_by_value l h = value_false (is_true_under held l) (is_false_under held l) h

  pub open_by_value : (l : Lit) → value_under held l ≡ None → is_open_under held l ≡ true
  open_by_value l h =
      let both = value_none (is_true_under held l) (is_false_under held l) h in
      and_from (not (is_true_under held l)) (not (is_false_under held l)) (not_from_false (is_true_under held l) both.0)
      (not_from_false (is_false_under held l) both.1)

  pub leaves_only-parts : (clause : List Lit) (l : Lit) → leaves_only held clause l ≡ true
      → (is_among clause l ≡ true) × (is_open_under held l ≡ true) × (list_all (is_or_false held l) clause ≡ true)
  leaves_only-parts clause l h =
      let outer = and_parts (is_among clause l && is_open_under held l) (list_all (is_or_false held l) clause) h in
      let inner = and_parts (is_among clause l) (is_open_under held l) outer.0 in
      (inner.0, inner.1, outer.1)

  pub leaves_only-from : (clause : List Lit) (l : Lit) → is_among clause l ≡ true → is_open_under held l ≡ true
      → list_all (is_or_false held l) clause ≡ true → leaves_only held clause l ≡ true
  leaves_only-from clause l among unset others =
      and_from (is_among clause l && is_open_under held l) (list_all (is_or_false held l) clause)
      (and_from (is_among clause l) (is_open_under held l) among unset) others

  -- a clause with a true literal is idle
  pub idle_by_true : IsConsistent held → (clause : List Lit) (t : Lit) → is_among clause t ≡ true
      → is_true_under held t ≡ true → IsIdle held clause
  idle_by_true consistent clause t place is_true =
      let not_false : is_false_under held t ≡ false = consistent t is_true in
      record {
        no_conflict = not_all (is_false_under held) clause t place not_false;
        forces_none = λ l. false_from_ne_true (leaves_only held clause l) (λ h.
            let parts = leaves_only-parts clause l h in
            let other : is_same_literal t l ≡ false =
            false_from_ne_true (is_same_literal t l)
            (λ same. false≢true (sym (open-not_true held l parts.1)
            ∙ ap (is_true_under held) (sym (is_same_literal-true t l same)) ∙ is_true)) in
            false≢true (sym (not_all (is_or_false held l) clause t place
            (or_from (is_same_literal t l) (is_false_under held t) other not_false)) ∙ parts.2));
      }

  -- a literal of the front of a list is one of the list
  pub among_front : (n : ℕ) (clause : List Lit) (l : Lit) → is_among (take n clause) l ≡ true → is_among clause l ≡ true
  among_front zero clause l h = absurd (false≢true h)
  among_front (suc n) [] l h = h
  among_front (suc n) (m ∷ ms) l h =
      elim (or_cases (is_same_literal m l) (is_among (take n ms) l) h) [
        | inl here ↦ or_left (is_same_literal m l) (is_among ms l) here
        | inr later ↦ or_right (is_same_literal m l) (is_among ms l) (among_front n ms l later)
      ]

  -- a clause with two literals without a value is idle
  pub idle_by_two : (clause : List Lit) (t first : Lit) → is_among clause t ≡ true
      → is_among clause first ≡ true → is_open_under held first ≡ true → is_open_under held t ≡ true
      → (first ≡ t → ⊥) → IsIdle held clause
  idle_by_two clause t first place among open_first unset other =
      let not_false : is_false_under held t ≡ false = open-not_false held t unset in
      record {
        no_conflict = not_all (is_false_under held) clause t place not_false;
        forces_none = λ l. false_from_ne_true (leaves_only held clause l) (λ h.
            let parts = leaves_only-parts clause l h in
            elim (or_cases (is_same_literal first l) (is_false_under held first)
            (all_among (is_or_false held l) clause first parts.2 among)) [
              | inl same ↦
                  let apart : is_same_literal t l ≡ false =
                  false_from_ne_true (is_same_literal t l)
                  (λ as_l. other (is_same_literal-true first l same ∙ sym (is_same_literal-true t l as_l))) in
                  false≢true (sym (not_all (is_or_false held l) clause t place
                  (or_from (is_same_literal t l) (is_false_under held t) apart not_false)) ∙ parts.2)
              | inr as_false ↦ false≢true (sym (open-not_false held first open_first) ∙ as_false)
            ]);
      }

  -- where each literal is this one or false, and this one is false
  pub false_with_it : (l : Lit) → is_false_under held l ≡ true → (clause : List Lit)
      → list_all (is_or_false held l) clause ≡ true → is_false_clause held clause ≡ true
  false_with_it l is_false clause h =
      all_weaker (is_or_false held l) (is_false_under held)
      (λ m either. elim (or_cases (is_same_literal m l) (is_false_under held m) either) [
        | inl same ↦ ap (is_false_under held) (is_same_literal-true m l same) ∙ is_false
        | inr here ↦ here
      ]) clause h

  pub among_at : (clause : List Lit) (i : ℕ) (d : Lit) → i < length clause → is_among clause (get_or clause i d) ≡ true
  among_at clause i d place =
      list_any_at (λ m. is_same_literal m (get_or clause i d)) clause i d place
      (is_same_literal-self (get_or clause i d))

  pub leaves_it : (clause : List Lit) (i : ℕ) (d : Lit) → i < length clause
      → is_open_under held (get_or clause i d) ≡ true → list_all (is_or_false held (get_or clause i d)) clause ≡ true
      → leaves_only held clause (get_or clause i d) ≡ true
  leaves_it clause i d place unset h = leaves_only-from clause (get_or clause i d) (among_at clause i d place) unset h
