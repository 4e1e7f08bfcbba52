-- Where the live assertions that a search was asked about are true of words and truth values of their constants, and
-- the assumptions are, a check may give these values, with the words that memberships give each other constant.
use Rattle.sb_prover.proofs.Words.{AreTrueUnder, ap₂, are_assumed, assumed, assumption_holds, hold_both, is_assumed, list_any-append, make_true, map, ◌++◌, ◌≡◌, ◌⊎◌, ℕ, zero, suc, ◌<◌, Bool, true, false, not, ◌&&◌, ◌||◌, ◌==◌, if◌then◌else◌, List, [], ◌∷◌, length, slice_get, Option, Some, inl, inr, refl, sym, ap, subst, ◌∙◌, arith, AreTruthsOf, IsReady, asked_alone, is_decided, list_all, Assertion, Constant, Contains, Decider, IsAbout, IsClosed, IsGiven, IsQuestion, IsSpoken, OccursAt, OccursNowhereAt, Sort, Stacked, Term, Text, Valuation, a_mark, all_at, all_hold, and_from, are_defaults, asks_of, asserted, assertion_in, boolean, constants_of, default_of, eqb-true, false_from_ne_true, false≢true, fits, get_or_from_slice_get, holds, integer, is_default, is_default_or_occurs, length-map, list_any, live, live_constants, live_laid, live_terms, occurs, or_left, or_parts, or_right, reglan, same_Some, slice_get_within, state_of, terms_in, text, truth_in, value_at, value_in, values_at, word_in, is_listed}
use Rattle.sb_prover.proofs.AssumedTruths.{assumed_hold, assumed_true, not_assumed, others_make, terms_hold, with_assumed}

-- Values by default.

sort_default : (k : Sort) → is_default (default_of k) ≡ true
sort_default boolean = refl
sort_default integer = refl
sort_default text = refl
sort_default reglan = refl

at_default : (ws : List (List ℕ)) (truths : List Bool) (n : ℕ) (k : Sort) → word_in ws n ≡ []
    → truth_in truths n ≡ false → is_default (value_at ws truths n k) ≡ true
at_default ws truths n boolean w t = ap not t
at_default ws truths n integer w t = refl
at_default ws truths n text w t = ap (λ (x : List ℕ). is_default (Text x)) w
at_default ws truths n reglan w t = ap (λ (x : List ℕ). is_default (Text x)) w

value_default : (cs : List (ℕ × Sort)) (ws : List (List ℕ)) (truths : List Bool) (n : ℕ) (k : Sort)
    → word_in ws n ≡ [] → truth_in truths n ≡ false → is_default (value_in (values_at cs ws truths) n k) ≡ true
value_default [] ws truths n k w t = sort_default k
value_default (c ∷ cs) ws truths n k w t = step (c.0 == n) refl (value_default cs ws truths n k w t)
  where
    step : (b : Bool) → (c.0 == n) ≡ b → is_default (value_in (values_at cs ws truths) n k) ≡ true
        → is_default (if b then value_at ws truths c.0 c.1 else value_in (values_at cs ws truths) n k) ≡ true
    step true same rest =
        ap (λ i. is_default (value_at ws truths i c.1)) (eqb-true c.0 n same) ∙ at_default ws truths n c.1 w t
    step false same rest = rest

occurs_or : (b d : Bool) → (b ≡ false → d ≡ true) → (b || d) ≡ true
occurs_or true d h = refl
occurs_or false d h = h refl

defaults_are : (constants : List Constant) (ts : List Term) (cs : List (ℕ × Sort)) (ws : List (List ℕ))
    (truths : List Bool)
    → ((n : ℕ) → list_any (occurs n) ts ≡ false → (word_in ws n ≡ []) × (truth_in truths n ≡ false))
    → are_defaults constants ts (values_at cs ws truths) ≡ true
defaults_are [] ts cs ws truths h = refl
defaults_are (c ∷ constants) ts cs ws truths h =
    let v = values_at cs ws truths in
    and_from (is_default_or_occurs ts v c) (are_defaults constants ts v)
    (occurs_or (list_any (occurs c.serial) ts) (is_default (value_in v c.serial c.sort))
    (λ none. let d = h c.serial none in value_default cs ws truths c.serial c.sort d.0 d.1))
    (defaults_are constants ts cs ws truths h)

-- Live terms.

pub same_term : (t u : Term) → asserted t ≡ asserted u → t ≡ u
same_term t u h = cc

any_live : (p : Term → Bool) (xs : List Assertion) (place : ℕ) (t : Term) → slice_get xs place ≡ Some (asserted t)
    → p t ≡ true → list_any p (terms_in xs) ≡ true
any_live p [] place t there h = absurd (omega (arith, slice_get_within [] place (asserted t) there))
any_live p (asserted u ∷ rest) zero t there h =
    or_left (p u) (list_any p (terms_in rest))
    (ap p (same_term u t (same_Some (asserted u) (asserted t) there)) ∙ h)
any_live p (asserted u ∷ rest) (suc place) t there h =
    or_right (p u) (list_any p (terms_in rest)) (any_live p rest place t there h)
any_live p (a_mark ∷ rest) zero t there h = absurd (cc (there))
any_live p (a_mark ∷ rest) (suc place) t there h = any_live p rest place t there h

all_live : (v : Valuation) (xs : List Assertion)
    → ((place : ℕ) (t : Term) → slice_get xs place ≡ Some (asserted t) → holds t v ≡ true)
    → all_hold (terms_in xs) v ≡ true
all_live v [] h = refl
all_live v (asserted t ∷ rest) h =
    and_from (holds t v) (all_hold (terms_in rest) v) (h 0 t refl)
    (all_live v rest (λ place u there. h (suc place) u there))
all_live v (a_mark ∷ rest) h = all_live v rest (λ place u there. h (suc place) u there)

-- Constants that occur in assertions of other structure.

-- where a constant occurs at no place that is asked about it occurs in no assertion of other structure
silent_at : (others : List ℕ) (s : Stacked) (places : List ℕ) (n : ℕ)
    → ((place : ℕ) → Contains others place → Contains places place) → OccursNowhereAt s places n
    → IsSpoken others s n → ⊥
silent_at others s places n asked nowhere o =
    false≢true (sym (nowhere o.place o.term (asked o.place o.other) o.there) ∙ o.occurring)

silent_there : (others : List ℕ) (s : Stacked) (n : ℕ) → list_any (occurs n) (live_terms (state_of s)) ≡ false
    → IsSpoken others s n → ⊥
silent_there others s n none o =
    false≢true (sym none ∙ any_live (occurs n) (live (state_of s)) o.place o.term o.there o.occurring)

-- the assertion about a constant alone is the one that stands at the place
about_this : (s : Stacked) (place n : ℕ) (t : Term) → IsAbout s place n
    → slice_get (live (state_of s)) place ≡ Some (asserted t) → asks_of n t ≡ true
about_this s place n t a there =
    subst (λ (u : Term). asks_of n u ≡ true)
    (same_term a.term t (same_Some (asserted a.term) (asserted t) (sym a.there ∙ there))) a.asks

-- a constant that occurs at a place that is asked about occurs in an assertion of other structure
spoken_at : (kept : Decider) (s : Stacked) (places : List ℕ) (n : ℕ) → list_all is_decided (live (state_of s)) ≡ true
    → IsQuestion kept.others.items s places → OccursAt s places n → IsSpoken kept.others.items s n
spoken_at kept s places n decided question o = by (question.only o.place o.listed)
  where
    by : Contains kept.others.items o.place ⊎ ((m : ℕ) × IsAbout s o.place m × IsSpoken kept.others.items s m)
        → IsSpoken kept.others.items s n
    by (inl other) =
        record { place = o.place; term = o.term; other = other; there = o.stands; occurring = o.there }
    by (inr about) =
        subst (IsSpoken kept.others.items s)
        (asked_alone n about.0 o.term (about_this s o.place about.0 o.term about.1 o.stands)
        (all_at is_decided (live (state_of s)) o.place (asserted o.term) decided
        (slice_get_within (live (state_of s)) o.place (asserted o.term) o.stands)
        (sym (get_or_from_slice_get (live (state_of s)) o.place (asserted o.term) (asserted o.term) o.stands))) o.there)
        about.2

-- where a search was asked about the assertions at these places
module _ (kept : Decider) (s : Stacked) (places : List ℕ) (found : List (Option (List ℕ))) (truths others : List Bool)
    (words : List (List ℕ))
    (fitting : fits (constants_of (state_of s)) (values_at (live_constants s) words others) ≡ true)
    (ready : IsReady kept s) (question : IsQuestion kept.others.items s places) (closed : IsClosed kept s found words)
    (those : AreTruthsOf kept.spoken.keys s.assumptions truths others) (under : AreTrueUnder s places found truths)
    (assumed_live : are_assumed (live_constants s) s.assumptions ≡ true) where
  abbrev values : Valuation
  values = values_at (live_constants s) words others

  made : make_true others s.assumptions ≡ true
  made = others_make kept.spoken.keys s.assumptions truths others those under.1

  pub assumptions_hold : list_all (assumption_holds values) s.assumptions ≡ true
  assumptions_hold = assumed_hold (live_constants s) words others s.assumptions assumed_live made

  within : (place : ℕ) (a : Assertion) → slice_get (live (state_of s)) place ≡ Some a → place < length s.assertions
  within place a there =
      let low = slice_get_within (live (state_of s)) place a there in
      omega (arith, low, ap length (live_laid s), length-map s.assertions (assertion_in s.table))

  -- a constant that is spoken of has the truth value that was found
  spoken_truth : (n : ℕ) → IsSpoken kept.others.items s n → truth_in others n ≡ truth_in truths n
  spoken_truth n spoken =
      those n
      ∙ ap (λ b. (b && truth_in truths n) || is_assumed s.assumptions n) (ready.spoken.each n spoken)
      ∙ with_assumed (truth_in truths n) (is_assumed s.assumptions n) (assumed_true truths s.assumptions n under.1)

  true_at : (place : ℕ) (t : Term) → slice_get (live (state_of s)) place ≡ Some (asserted t)
      → Contains places place ⊎ ((n : ℕ) × IsAbout s place n × OccursNowhereAt s places n) → holds t values ≡ true
  true_at place t there (inl listed) =
      under.0 words others closed.characters
      (λ n o.
      let spoken = spoken_at kept s places n ready.decided question o in
      (closed.given n spoken, spoken_truth n spoken))
      place t listed there
  true_at place t there (inr other) =
      closed.demands other.0 place t others
      (silent_at kept.others.items s places other.0 question.asked other.2) there
      (about_this s place other.0 t other.1 there)

  defaults : (n : ℕ) → list_any (occurs n) (map assumed s.assumptions ++ live_terms (state_of s)) ≡ false
      → (word_in words n ≡ []) × (truth_in others n ≡ false)
  defaults n none =
      let terms = live_terms (state_of s) in
      let both = or_parts (list_any (occurs n) (map assumed s.assumptions)) (list_any (occurs n) terms)
      (sym (list_any-append (occurs n) (map assumed s.assumptions) terms) ∙ none) in
      let silent = silent_there kept.others.items s n both.1 in (
        closed.defaults n silent both.1,
        those n
            ∙ ap₂ (λ b c. (b && truth_in truths n) || c)
            (false_from_ne_true (is_listed kept.spoken.keys n) (λ listed. silent (ready.spoken.only n listed)))
            (not_assumed s.assumptions n both.0),
      )

  pub given_by : IsGiven (state_of s) s.assumptions values
  given_by = record {
    model = and_from (fits (constants_of (state_of s)) values)
        (all_hold (map assumed s.assumptions ++ live_terms (state_of s)) values) fitting
        (hold_both (map assumed s.assumptions) (live_terms (state_of s)) values
        ∙ and_from (all_hold (map assumed s.assumptions) values) (all_hold (live_terms (state_of s)) values)
        (terms_hold (live_constants s) words others s.assumptions assumed_live made)
        (all_live values (live (state_of s))
        (λ place t there. true_at place t there (question.rest place (within place (asserted t) there)))));
    defaults = defaults_are (constants_of (state_of s)) (map assumed s.assumptions ++ live_terms (state_of s))
        (live_constants s) words others defaults;
    least = λ plain. closed.plain plain others;
  }
