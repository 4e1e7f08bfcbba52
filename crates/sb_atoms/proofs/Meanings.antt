-- The truth of terms of Boolean structure, by their shapes.
use Rattle.std.proofs.Common.{◌≡◌, ℕ, ◌<◌, Bool, true, false, not, ◌&&◌, if◌then◌else◌, List, [], ◌∷◌, length, map, slice_get, refl, sym, ap, ap₂, ◌∙◌, subst, arith}
use Rattle.std.specs.Prelude.{unwrap_or}
use Rattle.std.specs.List.{list_all, flat_map}
use Rattle.std.proofs.lemmas.Bool.{and_parts, and_from, false≢true}
use Rattle.std.proofs.lemmas.List.Folds.{list_all-map}
use Rattle.std.proofs.Math.Bool.{and-true}
use Rattle.sb_facts.proofs.CallerLemmas.{all_same}
use Rattle.sb_meaning.specs.Terms.{boolean, integer, text, reglan, Term, Terms, constant, word, numeral, apply, parameter, no_terms, with_term, terms_in}
use Rattle.sb_meaning.specs.Terms as symbol
use Rattle.sb_meaning.specs.Values.{Valuation}
use Rattle.sb_meaning.specs.Truth.{Meaning, means_word, means_number, means_truth, means_reglan, meaning_of_value, truth_in, all_true, some_true, implied, xor_of, differs, are_equal, is_chain, are_pairs, chosen, meaning_of, meanings_of, holds}
use Rattle.sb_script.specs.Brought.{is_structure, are_structure}
use Rattle.sb_fragment.specs.declared.shape.Connective.{Connective}
use Rattle.sb_fragment.specs.declared.shape.Connective.TheVariants as connective
use Rattle.sb_fragment.specs.declared.shape.Shape.TheVariants as shape
use Rattle.sb_fragment.specs.Compared.{compared}
use Rattle.sb_fragment.specs.Shapes.{IsApplied, IsComparison, IsConnected, IsShape, parts_of, truth_of, comparison_of}
use Rattle.sb_fragment.proofs.CallerLemmas.{pairs_all_test, compared_map}
use Rattle.sb_atoms.specs.Given.{GivesValues, GivesEach}
use Rattle.sb_atoms.specs.Truths.{chosen_truth, is_same, connected_truth, are_as_wanted}

-- A term of Boolean structure means a truth value.

abbrev is_truth : Meaning → Bool
is_truth (means_truth b) = true
is_truth _ = false

means_it : (m : Meaning) → is_truth m ≡ true → m ≡ means_truth (all_true (truth_in m))
means_it (means_truth b) h = ap means_truth (sym (and-true b))
means_it (means_word w) h = absurd (false≢true h)
means_it (means_number n) h = absurd (false≢true h)
means_it (means_reglan R) h = absurd (false≢true h)

either : (c : Bool) (a b : Meaning) → is_truth a ≡ true → is_truth b ≡ true
    → is_truth (if c then a else b) ≡ true
either true a b h k = h
either false a b h k = k

chosen_is : (ms : List Meaning) → list_all is_truth ms ≡ true → is_truth (chosen ms) ≡ true
chosen_is [] h = refl
chosen_is (means_truth c ∷ []) h = refl
chosen_is (means_truth c ∷ a ∷ []) h = refl
chosen_is (means_truth c ∷ a ∷ b ∷ []) h =
    let p = and_parts (is_truth a) (is_truth b && true) h in
    either c a b p.0 (and_parts (is_truth b) true p.1).0
chosen_is (means_truth c ∷ a ∷ b ∷ d ∷ ms) h = refl
chosen_is (means_word w ∷ ms) h = absurd (false≢true h)
chosen_is (means_number n ∷ ms) h = absurd (false≢true h)
chosen_is (means_reglan R ∷ ms) h = absurd (false≢true h)

mutual
  is_truth_term : (ws : List (List ℕ)) (bs : List Bool) (v : Valuation) (t : Term) → GivesValues ws bs v t
      → is_structure t ≡ true → is_truth (meaning_of v t) ≡ true
  is_truth_term ws bs v (constant serial boolean) gives h = ap (λ x. is_truth (meaning_of_value x)) gives
  is_truth_term ws bs v (constant serial integer) gives h = absurd (false≢true h)
  is_truth_term ws bs v (constant serial text) gives h = absurd (false≢true h)
  is_truth_term ws bs v (constant serial reglan) gives h = absurd (false≢true h)
  is_truth_term ws bs v (word w) gives h = absurd (false≢true h)
  is_truth_term ws bs v (numeral n) gives h = absurd (false≢true h)
  is_truth_term ws bs v (parameter place sort) gives h = absurd (false≢true h)
  is_truth_term ws bs v (apply symbol.core_true terms) gives h = refl
  is_truth_term ws bs v (apply symbol.core_false terms) gives h = refl
  is_truth_term ws bs v (apply symbol.core_not terms) gives h = refl
  is_truth_term ws bs v (apply symbol.core_and terms) gives h = refl
  is_truth_term ws bs v (apply symbol.core_or terms) gives h = refl
  is_truth_term ws bs v (apply symbol.core_implies terms) gives h = refl
  is_truth_term ws bs v (apply symbol.core_xor terms) gives h = refl
  is_truth_term ws bs v (apply symbol.core_ite terms) gives h =
      chosen_is (meanings_of v terms) (are_truth_terms ws bs v terms gives h)
  is_truth_term ws bs v (apply symbol.core_equal terms) gives h = refl
  is_truth_term ws bs v (apply symbol.core_distinct terms) gives h = refl
  is_truth_term ws bs v (apply symbol.str_in_re terms) gives h = refl
  is_truth_term ws bs v (apply symbol.str_prefixof terms) gives h = refl
  is_truth_term ws bs v (apply symbol.str_suffixof terms) gives h = refl
  is_truth_term ws bs v (apply symbol.str_contains terms) gives h = refl
  is_truth_term ws bs v (apply _ terms) gives h = absurd (false≢true h)

  are_truth_terms : (ws : List (List ℕ)) (bs : List Bool) (v : Valuation) (terms : Terms) → GivesEach ws bs v terms
      → are_structure terms ≡ true → list_all is_truth (meanings_of v terms) ≡ true
  are_truth_terms ws bs v no_terms gives h = refl
  are_truth_terms ws bs v (with_term t terms) gives h =
      let p = and_parts (is_structure t) (are_structure terms) h in
      and_from (is_truth (meaning_of v t)) (list_all is_truth (meanings_of v terms))
      (is_truth_term ws bs v t gives.0 p.0) (are_truth_terms ws bs v terms gives.1 p.1)

parts_mean : (ws : List (List ℕ)) (bs : List Bool) (v : Valuation) (terms : Terms) → GivesEach ws bs v terms
    → list_all is_structure (terms_in terms) ≡ true
    → meanings_of v terms ≡ map means_truth (map (λ t. holds t v) (terms_in terms))
parts_mean ws bs v no_terms gives h = refl
parts_mean ws bs v (with_term t terms) gives h =
    let p = and_parts (is_structure t) (list_all is_structure (terms_in terms)) h in
    ap₂ (λ m ms. m ∷ ms) (means_it (meaning_of v t) (is_truth_term ws bs v t gives.0 p.0))
    (parts_mean ws bs v terms gives.1 p.1)

flat_truths : (bs : List Bool) → flat_map truth_in (map means_truth bs) ≡ bs
flat_truths [] = refl
flat_truths (b ∷ bs) = ap (λ cs. b ∷ cs) (flat_truths bs)

truths_in_parts : (ws : List (List ℕ)) (bs : List Bool) (v : Valuation) (terms : Terms) → GivesEach ws bs v terms
    → list_all is_structure (terms_in terms) ≡ true
    → flat_map truth_in (meanings_of v terms) ≡ map (λ t. holds t v) (terms_in terms)
truths_in_parts ws bs v terms gives h =
    ap (flat_map truth_in) (parts_mean ws bs v terms gives h) ∙ flat_truths (map (λ t. holds t v) (terms_in terms))

-- What is compared.

chosen_holds : (bs : List Bool) → all_true (truth_in (chosen (map means_truth bs))) ≡ chosen_truth bs
chosen_holds [] = refl
chosen_holds (c ∷ []) = refl
chosen_holds (c ∷ a ∷ []) = refl
chosen_holds (true ∷ a ∷ b ∷ []) = and-true a
chosen_holds (false ∷ a ∷ b ∷ []) = and-true b
chosen_holds (c ∷ a ∷ b ∷ d ∷ bs) = refl

chain_same : (bs : List Bool) → is_chain are_equal (map means_truth bs) ≡ is_chain is_same bs
chain_same [] = refl
chain_same (a ∷ []) = refl
chain_same (a ∷ b ∷ bs) = ap (λ c. is_same a b && c) (chain_same (b ∷ bs))

not_same : (a b : Bool) → not (not (differs a b)) ≡ differs a b
not_same true true = refl
not_same true false = refl
not_same false true = refl
not_same false false = refl

each_differs : (a : Bool) (bs : List Bool)
    → list_all (λ m. not (are_equal (means_truth a) m)) (map means_truth bs) ≡ list_all (differs a) bs
each_differs a [] = refl
each_differs a (b ∷ bs) = ap₂ ◌&&◌ (not_same a b) (each_differs a bs)

pairs_differ : (bs : List Bool)
    → are_pairs (λ m n. not (are_equal m n)) (map means_truth bs) ≡ are_pairs differs bs
pairs_differ [] = refl
pairs_differ (a ∷ bs) = ap₂ ◌&&◌ (each_differs a bs) (pairs_differ bs)

-- By shapes.

pub constant_holds : (t : Term) (serial : ℕ) → t ≡ constant serial boolean → (ws : List (List ℕ)) (bs : List Bool)
    (v : Valuation) → GivesValues ws bs v t → unwrap_or (slice_get bs serial) false ≡ holds t v
constant_holds t serial is ws bs v gives =
    sym (ap (λ s. holds s v) is
    ∙ ap (λ x. all_true (truth_in (meaning_of_value x))) (subst (GivesValues ws bs v) is gives)
    ∙ and-true (unwrap_or (slice_get bs serial) false))

pub always_holds : (t : Term) (truth : Bool) → IsApplied t (truth_of truth) → (v : Valuation) → truth ≡ holds t v
always_holds t true h v = sym (ap (λ s. holds s v) h.is)
always_holds t false h v = sym (ap (λ s. holds s v) h.is)

few_compared : (distinct : Bool) (terms : Terms) → length (terms_in terms) < 2 → (v : Valuation)
    → holds (apply (comparison_of distinct) terms) v ≡ true
few_compared true no_terms few v = refl
few_compared true (with_term t no_terms) few v = refl
few_compared false no_terms few v = refl
few_compared false (with_term t no_terms) few v = refl
few_compared distinct (with_term t (with_term u terms)) few v = absurd (omega (arith, few))

pub alone_holds : (t : Term) → IsShape t shape.Alone → (v : Valuation) → true ≡ holds t v
alone_holds t h v = sym (ap (λ s. holds s v) h.1.is ∙ few_compared h.0 h.1.terms (rw h.1.is at h.2) v)

truths_compared : (distinct : Bool) (ws : List (List ℕ)) (bs : List Bool) (v : Valuation) (terms : Terms)
    → GivesEach ws bs v terms → list_all is_structure (terms_in terms) ≡ true
    → holds (apply (comparison_of distinct) terms) v
    ≡ connected_truth (connective.Compare distinct) (map (λ u. holds u v) (terms_in terms))
truths_compared true ws bs v terms gives all =
    and-true _
    ∙ ap (are_pairs (λ m n. not (are_equal m n))) (parts_mean ws bs v terms gives all)
    ∙ pairs_differ (map (λ u. holds u v) (terms_in terms))
truths_compared false ws bs v terms gives all =
    and-true _
    ∙ ap (is_chain are_equal) (parts_mean ws bs v terms gives all)
    ∙ chain_same (map (λ u. holds u v) (terms_in terms))

pub connected_holds : (t : Term) (c : Connective) → IsConnected t c → list_all is_structure (parts_of t) ≡ true
    → (ws : List (List ℕ)) (bs : List Bool) (v : Valuation) → GivesValues ws bs v t
    → holds t v ≡ connected_truth c (map (λ u. holds u v) (parts_of t))
connected_holds t connective.Not h all ws bs v gives =
    rw h.is (and-true _ ∙ ap (λ cs. not (all_true cs)) (truths_in_parts ws bs v h.terms
    (subst (GivesValues ws bs v) h.is gives) (rw h.is at all)))
connected_holds t connective.And h all ws bs v gives =
    rw h.is (and-true _ ∙ ap all_true (truths_in_parts ws bs v h.terms
    (subst (GivesValues ws bs v) h.is gives) (rw h.is at all)))
connected_holds t connective.Or h all ws bs v gives =
    rw h.is (and-true _ ∙ ap some_true (truths_in_parts ws bs v h.terms
    (subst (GivesValues ws bs v) h.is gives) (rw h.is at all)))
connected_holds t connective.Implies h all ws bs v gives =
    rw h.is (and-true _ ∙ ap implied (truths_in_parts ws bs v h.terms
    (subst (GivesValues ws bs v) h.is gives) (rw h.is at all)))
connected_holds t connective.Xor h all ws bs v gives =
    rw h.is (and-true _ ∙ ap xor_of (truths_in_parts ws bs v h.terms
    (subst (GivesValues ws bs v) h.is gives) (rw h.is at all)))
connected_holds t connective.Ite h all ws bs v gives =
    rw h.is (ap (λ ms. all_true (truth_in (chosen ms))) (parts_mean ws bs v h.terms
    (subst (GivesValues ws bs v) h.is gives) (rw h.is at all))
    ∙ chosen_holds (map (λ u. holds u v) (terms_in h.terms)))
connected_holds t (connective.Compare distinct) h all ws bs v gives =
    rw h.0.is (truths_compared distinct ws bs v h.0.terms (subst (GivesValues ws bs v) h.0.is gives) (rw h.0.is at all))

-- Of Strings.

meanings_are : (v : Valuation) (terms : Terms) → meanings_of v terms ≡ map (meaning_of v) (terms_in terms)
meanings_are v no_terms = refl
meanings_are v (with_term t terms) = ap (λ ms. meaning_of v t ∷ ms) (meanings_are v terms)

-- a test of the meanings of each two
of_each_two : (test : Meaning → Meaning → Bool) (distinct : Bool) (v : Valuation) (ts : List Term)
    → list_all (λ p. test p.0 p.1) (compared distinct (map (meaning_of v) ts))
    ≡ list_all (λ p. test (meaning_of v p.0) (meaning_of v p.1)) (compared distinct ts)
of_each_two test distinct v ts =
    ap (list_all (λ (p : Meaning × Meaning). test p.0 p.1)) (compared_map (meaning_of v) distinct ts)
    ∙ list_all-map (λ (p : Meaning × Meaning). test p.0 p.1) (λ p. (meaning_of v p.0, meaning_of v p.1))
    (compared distinct ts)

twice_true : (b : Bool) → b ≡ ((b && true) && true)
twice_true true = refl
twice_true false = refl

pub words_hold : (t : Term) (distinct : Bool) → IsComparison t distinct text → (v : Valuation)
    → list_all (are_as_wanted distinct v) (compared distinct (parts_of t)) ≡ holds t v
words_hold t true h v = rw h.is (sym step)
  where
    step : holds (apply symbol.core_distinct h.terms) v
        ≡ list_all (are_as_wanted true v) (compared true (terms_in h.terms))
    step =
        and-true _
        ∙ ap (are_pairs (λ m n. not (are_equal m n))) (meanings_are v h.terms)
        ∙ pairs_all_test (λ m n. not (are_equal m n)) (map (meaning_of v) (terms_in h.terms))
        ∙ of_each_two (λ m n. not (are_equal m n)) true v (terms_in h.terms)
        ∙ all_same (λ p. not (are_equal (meaning_of v p.0) (meaning_of v p.1))) (are_as_wanted true v)
        (compared true (terms_in h.terms))
        (λ p. ap not (twice_true (are_equal (meaning_of v p.0) (meaning_of v p.1))))
words_hold t false h v = rw h.is (sym step)
  where
    step : holds (apply symbol.core_equal h.terms) v
        ≡ list_all (are_as_wanted false v) (compared false (terms_in h.terms))
    step =
        and-true _
        ∙ ap (is_chain are_equal) (meanings_are v h.terms)
        ∙ of_each_two are_equal false v (terms_in h.terms)
        ∙ all_same (λ p. are_equal (meaning_of v p.0) (meaning_of v p.1)) (are_as_wanted false v)
        (compared false (terms_in h.terms))
        (λ p. twice_true (are_equal (meaning_of v p.0) (meaning_of v p.1)))
