-- Values are a model where they are of the kinds that the live constants have, and words where these are Strings, under
-- which all is true.
use Rattle.std.proofs.Common.{◌≡◌, ℕ, ◌+◌, Bool, true, false, ◌&&◌, List, [], ◌∷◌, length, suc, map, refl, sym, ap, ap₂, ◌∙◌, Option, Some, None, Result, Ok, Err, IfOk}
use Rattle.std.specs.List.{list_all}
use Rattle.std.proofs.Math.Bool.{and-true}
use Rattle.std.proofs.lemmas.Bool.{and_from}
use Rattle.std.proofs.lemmas.List.{length-map}
use Rattle.std.proofs.lemmas.List.Folds.{list_all-append}
use Rattle.sb_meaning.specs.Terms.{Term, Sort}
use Rattle.sb_meaning.specs.Values.{Value, Valuation}
use Rattle.sb_meaning.specs.Truth.{holds}
use Rattle.sb_script.specs.State.{Level, Assertion, asserted, a_mark, Assumption, fits, over_levels, constants_of, live_terms, terms_in}
use Rattle.sb_proof.specs.declared.line.Value as code
use Rattle.sb_proof.specs.Lines.{value_in as read}
use Rattle.sb_rulebook.specs.Accepted.{at_level, live_by_level}
use Rattle.sb_rulebook.specs.Verdicts.{valued, are_model_of, assertion_holds, assumption_holds}
use Rattle.sb_stack.specs.declared.constant.LiveConstant.{LiveConstant}
use Rattle.sb_stack.specs.Speaking.{speaks_of}
use Rattle.sb_stack.specs.Stacked.{Stacked, state_of, question_of, live_constants, live_in, values_at, are_words}
use Rattle.sb_stack.proofs.CallerLemmas.{live_laid}
use Rattle.sb_models.specs.Knowing.{is_true_under, GiveAll, AreTrueBy, IsTruthBy, assertions_of, word_at, truth_at}
use Rattle.sb_models.specs.Tried.{is_kind, are_kinds, is_word, texts_in, truths_in, one_given, word_given, given, are_tried, is_assumed}
use Rattle.sb_models.proofs.KindFacts.{made, values_made, values_given, assumed_given}

one_level : (v : Valuation) (level : ℕ) (assertions : List Assertion)
    → list_all (λ (a : Option Term × ℕ). assertion_holds v a.0) (at_level level assertions)
    ≡ list_all (is_true_under v) assertions
one_level v level [] = refl
one_level v level (a ∷ rest) = ap (λ b. is_true_under v a && b) (one_level v level rest)

levels_hold : (v : Valuation) (first : Level) (levels : List Level)
    → list_all (λ (a : Option Term × ℕ). assertion_holds v a.0) (live_by_level first levels)
    ≡ list_all (is_true_under v) (over_levels (λ l. l.assertions) first levels)
levels_hold v first [] = one_level v 0 first.assertions
levels_hold v first (level ∷ levels) =
    list_all-append (λ (a : Option Term × ℕ). assertion_holds v a.0) (live_by_level first levels)
    (at_level (length levels + 1) level.assertions)
    ∙ (ap₂ (λ a b. a && b) (levels_hold v first levels) (one_level v (length levels + 1) level.assertions)
    ∙ sym (list_all-append (is_true_under v) (over_levels (λ l. l.assertions) first levels) level.assertions))

-- all that a check asks is true under the values
abbrev all_true : Stacked → Valuation → Bool
all_true stack v =
    list_all (is_true_under v) (assertions_of stack) && list_all (assumption_holds v) stack.assumptions

model_made : (stack : Stacked) (xs : List Value) → are_model_of (question_of stack) xs
    ≡ made (constants_of (state_of stack)) (all_true stack) (valued (constants_of (state_of stack)) xs)
model_made stack xs = by (valued (constants_of (state_of stack)) xs)
  where
    live : Valuation → Bool
    live v = list_all (λ (a : Option Term × ℕ). assertion_holds v a.0)
        (live_by_level (state_of stack).first (state_of stack).above)

    by : (o : Option Valuation)
        → elim o as (λ _. Bool) [
          | None ↦ false
          | Some v ↦ fits (constants_of (state_of stack)) v
              && (live v && list_all (assumption_holds v) stack.assumptions)
        ] ≡ made (constants_of (state_of stack)) (all_true stack) o
    by None = refl
    by (Some v) =
        ap (λ b. fits (constants_of (state_of stack)) v && (b && list_all (assumption_holds v) stack.assumptions))
        (levels_hold v (state_of stack).first (state_of stack).above
        ∙ ap (list_all (is_true_under v)) (live_laid stack))

-- what a caller is told of the constants
abbrev pub HasFit : Stacked → Type 0
HasFit stack = (words : List (List ℕ)) (truths : List Bool) → are_words words ≡ true
    → fits (constants_of (state_of stack)) (values_at (live_constants stack) words truths) ≡ true

model_is : (stack : Stacked) (xs : List Value) → HasFit stack
    → are_model_of (question_of stack) xs
    ≡ (are_kinds (live_constants stack) xs
    && are_tried (live_constants stack) xs (assertions_of stack) stack.assumptions)
model_is stack xs fit = model_made stack xs
    ∙ values_made (constants_of (state_of stack)) (live_constants stack) xs (all_true stack) (fit [] [] refl)

-- What a check of values finds, where these are the live constants.

other_length : (ds : List (ℕ × Sort)) (xs : List Value) → (length xs ≡ length ds → ⊥) → are_kinds ds xs ≡ false
other_length [] [] other = absurd (other refl)
other_length [] (x ∷ xs) other = refl
other_length (d ∷ ds) [] other = refl
other_length (d ∷ ds) (x ∷ xs) other =
    ap (λ b. is_kind d.1 x && b) (other_length ds xs (λ same. other (ap (λ n. suc n) same))) ∙ and_false (is_kind d.1 x)
  where
    and_false : (b : Bool) → (b && false) ≡ false
    and_false true = refl
    and_false false = refl

pub other_kinds : (stack : Stacked) (xs : List Value) → HasFit stack → are_kinds (live_constants stack) xs ≡ false
    → false ≡ are_model_of (question_of stack) xs
other_kinds stack xs fit other =
    sym (model_is stack xs fit
    ∙ ap (λ b. b && are_tried (live_constants stack) xs (assertions_of stack) stack.assumptions) other)

pub other_number : (stack : Stacked) (xs : List Value) (constants : List LiveConstant) → HasFit stack
    → map live_in constants ≡ live_constants stack → (length xs ≡ length constants → ⊥)
    → false ≡ are_model_of (question_of stack) xs
other_number stack xs constants fit live other =
    other_kinds stack xs fit
    (other_length (live_constants stack) xs
    (λ same. other (same ∙ ap length (sym live) ∙ length-map constants live_in)))

pub model_of : {E : Type 0} (r : Result Bool E) (stack : Stacked) (xs : List Value) (constants : List LiveConstant)
    → HasFit stack → map live_in constants ≡ live_constants stack → are_kinds (live_constants stack) xs ≡ true
    → IfOk r (λ b. b ≡ are_tried (map live_in constants) xs (assertions_of stack) stack.assumptions)
    → IfOk r (λ model. model ≡ are_model_of (question_of stack) xs)
model_of (Ok b) stack xs constants fit live kinds h =
    h ∙ ap (λ ds. are_tried ds xs (assertions_of stack) stack.assumptions) live
    ∙ sym (model_is stack xs fit
    ∙ ap (λ k. k && are_tried (live_constants stack) xs (assertions_of stack) stack.assumptions) kinds)
model_of (Err e) stack xs constants fit live kinds h = h

-- what a caller is told of the live assertions
pub named_in : (stack : Stacked) (ds : List (ℕ × Sort)) → ds ≡ live_constants stack
    → list_all (speaks_of (live_constants stack)) (live_terms (state_of stack)) ≡ true
    → list_all (speaks_of ds) (terms_in (assertions_of stack)) ≡ true
named_in stack ds same named =
    rw same (ap (λ bs. list_all (speaks_of (live_constants stack)) (terms_in bs)) (sym (live_laid stack)) ∙ named)

-- all that is true where constants have words and truth values is true under values that give them these
all_true_under : (ws : List (List ℕ)) (bs : List Bool) (v : Valuation) (xs : List Assertion) → AreTrueBy ws bs xs
    → GiveAll ws bs v xs → list_all (is_true_under v) xs ≡ true
all_true_under ws bs v [] h gives = refl
all_true_under ws bs v (asserted t ∷ xs) h gives =
    and_from (holds t v) (list_all (is_true_under v) xs) (h.0 v gives.0) (all_true_under ws bs v xs h.1 gives.1)
all_true_under ws bs v (a_mark ∷ xs) h gives = absurd h

truth_under : (ws : List (List ℕ)) (bs : List Bool) (v : Valuation) (xs : List Assertion) (b : Bool)
    → IsTruthBy ws bs xs b → GiveAll ws bs v xs → b ≡ list_all (is_true_under v) xs
truth_under ws bs v xs true h gives = sym (all_true_under ws bs v xs h gives)
truth_under ws bs v xs false h gives = sym (h v gives)

pub no_words : (ds : List (ℕ × Sort)) (xs : List Value) (assertions : List Assertion) (assumptions : List Assumption)
    → list_all is_word xs ≡ false → false ≡ are_tried ds xs assertions assumptions
no_words ds xs assertions assumptions none =
    sym (ap (λ b. b && (list_all (is_true_under (given ds xs)) assertions
    && list_all (assumption_holds (given ds xs)) assumptions)) none)

-- where an assumption is false under the truth values of values
pub not_assumed : (constants : List LiveConstant) (values : List code.Value) (bs cs : List Bool)
    (assertions : List Assertion) (assumptions others : List Assumption)
    → ((n : ℕ) → truth_at bs n ≡ one_given constants (truths_in values) n false)
    → cs ≡ bs → others ≡ assumptions → list_all (is_assumed cs) others ≡ false
    → false ≡ are_tried (map live_in constants) (map read values) assertions assumptions
not_assumed constants values bs cs assertions assumptions others truths p q none =
    sym (ap (λ b. list_all is_word (map read values)
    && (list_all (is_true_under (given (map live_in constants) (map read values))) assertions && b)) fails
    ∙ none_of (list_all is_word (map read values))
    (list_all (is_true_under (given (map live_in constants) (map read values))) assertions))
  where
    fails : list_all (assumption_holds (given (map live_in constants) (map read values))) assumptions ≡ false
    fails = sym (assumed_given constants values bs assumptions truths)
        ∙ (ap₂ (λ ds xs. list_all (is_assumed ds) xs) (sym p) (sym q) ∙ none)

    none_of : (k t : Bool) → (k && (t && false)) ≡ false
    none_of true true = refl
    none_of true false = refl
    none_of false t = refl

-- what is true under the words and truth values of values
pub tried : (constants : List LiveConstant) (values : List code.Value) (ws us : List (List ℕ)) (bs cs : List Bool)
    (assertions : List Assertion) (assumptions : List Assumption) (b d : Bool)
    → are_kinds (map live_in constants) (map read values) ≡ true
    → list_all (speaks_of (map live_in constants)) (terms_in assertions) ≡ true
    → list_all is_word (map read values) ≡ true
    → ((n : ℕ) → word_at ws n ≡ word_given constants (texts_in values) n [])
    → ((n : ℕ) → truth_at bs n ≡ one_given constants (truths_in values) n false)
    → list_all (is_assumed bs) assumptions ≡ true
    → us ≡ ws → cs ≡ bs → b ≡ d → IsTruthBy us cs assertions b
    → d ≡ are_tried (map live_in constants) (map read values) assertions assumptions
tried constants values ws us bs cs assertions assumptions b d kinds named words texts truths assumed p q is h =
    sym is
    ∙ truth_under ws bs v assertions b (rw (p, q) at h)
    (values_given constants values ws bs assertions kinds named texts truths)
    ∙ sym (ap₂ (λ k m. k && (list_all (is_true_under v) assertions && m)) words
    (sym (assumed_given constants values bs assumptions truths) ∙ assumed)
    ∙ and-true (list_all (is_true_under v) assertions))
  where
    v : Valuation
    v = given (map live_in constants) (map read values)

pub true_through : (ws us : List (List ℕ)) (bs cs : List Bool) (assertions : List Assertion) (b : Bool) → us ≡ ws
    → cs ≡ bs → b ≡ true → IsTruthBy us cs assertions b → AreTrueBy ws bs assertions
true_through ws us bs cs assertions b p q is h = rw (p, q, is) at h
