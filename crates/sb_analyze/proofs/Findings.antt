-- What a clause gives where some literals are true.
use Rattle.std.proofs.Common.{◌≡◌, Bool, true, not, ◌||◌, List, [], ◌∷◌, refl, sym, ◌∙◌, ap, inl, inr}
use Rattle.std.specs.List.{list_all, filter}
use Rattle.std.proofs.lemmas.Bool.{false≢true, and_parts, and_from, or_cases, cases_Bool}
use Rattle.sb_lit.specs.declared.clause.Lit.{Lit}
use Rattle.sb_lit.specs.Clauses.{is_same_literal, is_among, is_false_under, is_open_under, is_false_clause}
use Rattle.sb_lit.specs.Hints.{falsified, forces, finding, finding_of_rest}
use Rattle.sb_lit.proofs.CallerLemmas.{is_same_literal-true, is_same_literal-self, open-not_false}

none_left : (held clause : List Lit) → is_false_clause held clause ≡ true
    → filter (λ l. not (is_false_under held l)) clause ≡ []
none_left held [] h = refl
none_left held (l ∷ ls) h =
    let parts = and_parts (is_false_under held l) (is_false_clause held ls) h in
    rw parts.0 (none_left held ls parts.1)

-- a clause that is false
pub finding_false : (held clause : List Lit) → is_false_clause held clause ≡ true → finding held clause ≡ falsified
finding_false held clause h = ap (finding_of_rest held) (none_left held clause h)

-- the literal is this one or false
abbrev pub is_or_false : List Lit → Lit → Lit → Bool
is_or_false held l m = is_same_literal m l || is_false_under held m

same_left : (held clause : List Lit) (l : Lit) → list_all (is_or_false held l) clause ≡ true
    → list_all (is_same_literal l) (filter (λ m. not (is_false_under held m)) clause) ≡ true
same_left held [] l h = refl
same_left held (m ∷ ms) l h =
    let parts = and_parts (is_or_false held l m) (list_all (is_or_false held l) ms) h in
    elim (cases_Bool (is_false_under held m)) [
      | inl is_false ↦ rw is_false (same_left held ms l parts.1)
      | inr other ↦
          elim (or_cases (is_same_literal m l) (is_false_under held m) parts.0) [
            | inl same ↦
                rw other (and_from (is_same_literal l m)
                (list_all (is_same_literal l) (filter (λ x. not (is_false_under held x)) ms))
                (rw (is_same_literal-true m l same) (is_same_literal-self l)) (same_left held ms l parts.1))
            | inr is_false ↦ absurd (false≢true (sym other ∙ is_false))
          ]
    ]

one_left : (held rest : List Lit) (l m : Lit) → m ≡ l → is_open_under held l ≡ true
    → list_all (is_same_literal l) rest ≡ true → finding_of_rest held (m ∷ rest) ≡ forces l
one_left held rest l m same unset others =
    rw (same, and_from (is_open_under held l) (list_all (is_same_literal l) rest) unset others) refl

-- a clause whose literals are false but for one that has no value
pub finding_forces : (held clause : List Lit) (l : Lit) → is_among clause l ≡ true → is_open_under held l ≡ true
    → list_all (is_or_false held l) clause ≡ true → finding held clause ≡ forces l
finding_forces held [] l among unset h = absurd (false≢true among)
finding_forces held (m ∷ ms) l among unset h =
    let parts = and_parts (is_or_false held l m) (list_all (is_or_false held l) ms) h in
    elim (cases_Bool (is_false_under held m)) [
      | inl is_false ↦
          elim (or_cases (is_same_literal m l) (is_among ms l) among) [
            | inl same ↦ absurd (false≢true (sym (open-not_false held l unset)
                ∙ ap (is_false_under held) (sym (is_same_literal-true m l same)) ∙ is_false))
            | inr later ↦ rw is_false (finding_forces held ms l later unset parts.1)
          ]
      | inr other ↦
          elim (or_cases (is_same_literal m l) (is_false_under held m) parts.0) [
            | inl same ↦ rw other
                (one_left held (filter (λ x. not (is_false_under held x)) ms) l m (is_same_literal-true m l same) unset
                (same_left held ms l parts.1))
            | inr is_false ↦ absurd (false≢true (sym other ∙ is_false))
          ]
    ]
