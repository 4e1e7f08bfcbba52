-- The values of a model, as the last line of its check says them.
use Rattle.sb_prover.proofs.Words.{Term, assumed, assumption_holds, hold_both, question_of, ◌++◌, ◌≡◌, ℕ, Bool, true, false, not, ◌&&◌, ◌||◌, ◌==◌, List, [], ◌∷◌, map, get_or, Some, None, option_map, refl, sym, ap, ap₂, ◌∙◌, arith, AllKept, Assertion, Constant, Question, Sort, Stacked, State, Text, Valuation, a_mark, all_hold, and_from, and_parts, are_characters, are_in_fragment, are_inside, are_small, asked_in, asserted, assertion_holds, boolean, constants_of, eqb-true, false≢true, fits, holds, in_fragment, integer, is_character, is_inside, is_model, is_model_of, is_of, is_small, is_small_value, list_all, live, live_constants, proofs, refusal_of, reglan, said_has_text, said_sat, said_value, state_of, term_of, terms_in, text, unless_wrong, value_at, valued, values_at, nat_tests, list_all-map}
use Rattle.sb_script.specs.Brought.{is_brought}
use Rattle.sb_prover.proofs.LiveLevels.{Row, terms-by-level}

-- values that fit the constants are theirs, in order
valued-given : (cs : List Constant) (ds : List (ℕ × Sort)) (words : List (List ℕ)) (truths : List Bool)
    → fits cs (values_at ds words truths) ≡ true
    → valued cs (map (said_value words truths) ds) ≡ Some (values_at ds words truths)
valued-given [] [] words truths h = refl
valued-given [] (d ∷ ds) words truths h = absurd (false≢true h)
valued-given (c ∷ cs) [] words truths h = absurd (false≢true h)
valued-given (c ∷ cs) (d ∷ ds) words truths h =
    let value = said_value words truths d in
    let parts = and_parts ((c.serial == d.0) && is_of c.sort value) (fits cs (values_at ds words truths)) h in
    ap (option_map (λ v. (c.serial, value) ∷ v)) (valued-given cs ds words truths parts.1)
    ∙ ap (λ serial. Some ((serial, value) ∷ values_at ds words truths))
    (eqb-true c.serial d.0 (and_parts (c.serial == d.0) (is_of c.sort value) parts.0).0)

-- their characters have a text
small-word : (w : List ℕ) → are_characters w ≡ true → are_small w ≡ true
small-word [] h = refl
small-word (c ∷ cs) h =
    let parts = and_parts (is_character c) (are_characters cs) h in
    let small = parts.0 in
    and_from (is_small c) (are_small cs) (grind (arith, nat_tests, small)) (small-word cs parts.1)

small-text : (sort : Sort) (w : List ℕ) → is_of sort (Text w) ≡ true → are_small w ≡ true
small-text text w h = small-word w h
small-text integer w h = absurd (false≢true h)
small-text boolean w h = absurd (false≢true h)
small-text reglan w h = absurd (false≢true h)

small-value : (sort : Sort) (words : List (List ℕ)) (truths : List Bool) (n : ℕ) (kind : Sort)
    → is_of sort (value_at words truths n kind) ≡ true → is_small_value (value_at words truths n kind) ≡ true
small-value sort words truths n boolean h = refl
small-value sort words truths n integer h = refl
small-value sort words truths n text h = small-text sort (get_or words n []) h
small-value sort words truths n reglan h = small-text sort (get_or words n []) h

small-values : (cs : List Constant) (ds : List (ℕ × Sort)) (words : List (List ℕ)) (truths : List Bool)
    → fits cs (values_at ds words truths) ≡ true → list_all is_small_value (map (said_value words truths) ds) ≡ true
small-values [] [] words truths h = refl
small-values [] (d ∷ ds) words truths h = absurd (false≢true h)
small-values (c ∷ cs) [] words truths h = absurd (false≢true h)
small-values (c ∷ cs) (d ∷ ds) words truths h =
    let value = said_value words truths d in
    let parts = and_parts ((c.serial == d.0) && is_of c.sort value) (fits cs (values_at ds words truths)) h in
    and_from (is_small_value value) (list_all is_small_value (map (said_value words truths) ds))
    (small-value c.sort words truths d.0 d.1 (and_parts (c.serial == d.0) (is_of c.sort value) parts.0).1)
    (small-values cs ds words truths parts.1)

-- assertions without marks are true where their terms are
assertions-hold : (v : Valuation) (ts : List Assertion) → are_inside ts ≡ true → all_hold (terms_in ts) v ≡ true
    → list_all (assertion_holds v) (map term_of ts) ≡ true
assertions-hold v [] inside h = refl
assertions-hold v (asserted t ∷ ts) inside h =
    let parts = and_parts (holds t v) (all_hold (terms_in ts) v) h in
    and_from (holds t v) (list_all (assertion_holds v) (map term_of ts)) parts.0
    (assertions-hold v ts (and_parts (is_inside (asserted t)) (are_inside ts) inside).1 parts.1)
assertions-hold v (a_mark ∷ ts) inside h = absurd (false≢true inside)

-- on whichever level they are
live-hold : (v : Valuation) (s : State) → are_inside (live s) ≡ true → all_hold (terms_in (live s)) v ≡ true
    → list_all (λ a. assertion_holds v a.0) (asked_in s).live ≡ true
live-hold v s inside h =
    sym (list_all-map (assertion_holds v) (λ (row : Row). row.0) (asked_in s).live)
    ∙ ap (list_all (assertion_holds v)) (terms-by-level s.first s.above) ∙ assertions-hold v (live s) inside h

-- What makes a model's values right, and their text.
pub record AreSaid (stack : Stacked) (words : List (List ℕ)) (truths : List Bool) : Type 0 where
  pub valued_as : valued (constants_of (state_of stack)) (map (said_value words truths) (live_constants stack))
      ≡ Some (values_at (live_constants stack) words truths)
  pub small : said_has_text (said_sat (map (said_value words truths) (live_constants stack))) ≡ true
  pub right : (kept : AllKept)
      → refusal_of (question_of stack) kept
      (said_sat (map (said_value words truths) (live_constants stack))) ≡ None

pub sat-said : (stack : Stacked) (words : List (List ℕ)) (truths : List Bool) → in_fragment (state_of stack) ≡ true
    → is_model (state_of stack) stack.assumptions (values_at (live_constants stack) words truths) ≡ true
    → list_all (assumption_holds (values_at (live_constants stack) words truths)) stack.assumptions ≡ true
    → AreSaid stack words truths
sat-said stack words truths inside model assumptions = record {
  valued_as = valued-given (constants_of s) ds words truths parts.0;
  small = small-values (constants_of s) ds words truths parts.0;
  right = λ kept. ap₂ (λ b c. unless_wrong (b && c)) inside
      (ap (λ o. elim o as (λ _. Bool) [ None ↦ false | Some v ↦ is_model_of q v ])
      (valued-given (constants_of s) ds words truths parts.0)
      ∙ and_from (fits (constants_of s) (values_at ds words truths)) _ parts.0
      (and_from _ (list_all (assumption_holds (values_at ds words truths)) stack.assumptions)
      (live-hold (values_at ds words truths) s
      (and_parts (not (is_brought proofs) || are_in_fragment (live s)) (are_inside (live s)) inside).1 terms)
      assumptions));
}
  where
    s : State
    s = state_of stack

    ds : List (ℕ × Sort)
    ds = live_constants stack

    q : Question
    q = question_of stack

    given : List Term
    given = map assumed stack.assumptions

    parts : (fits (constants_of s) (values_at ds words truths) ≡ true)
        × (all_hold (given ++ terms_in (live s)) (values_at ds words truths) ≡ true)
    parts = and_parts (fits (constants_of s) (values_at ds words truths))
        (all_hold (given ++ terms_in (live s)) (values_at ds words truths)) model

    terms : all_hold (terms_in (live s)) (values_at ds words truths) ≡ true
    terms = (and_parts (all_hold given (values_at ds words truths))
        (all_hold (terms_in (live s)) (values_at ds words truths))
        (sym (hold_both given (terms_in (live s)) (values_at ds words truths)) ∙ parts.1)).1
