-- A check is decided exactly where each of its live assertions is: Boolean structure that fits asks for no bounds.
use Rattle.std.proofs.Common.{◌≡◌, ℕ, suc, ◌<◌, Bool, true, false, ◌&&◌, nat_le, List, [], ◌∷◌, ◌++◌, length, get_or, if◌then◌else◌, Option, Some, None, refl, sym, ap, ap₂, ◌∙◌, arith}
use Rattle.std.specs.Prelude.{is_some}
use Rattle.std.specs.List.{list_all, flat_map}
use Rattle.std.proofs.lemmas.Bool.{and_parts, false≢true}
use Rattle.std.proofs.lemmas.Option.{none-some}
use Rattle.std.proofs.Math.Bool.{and-false}
use Rattle.sb_facts.proofs.CallerLemmas.{then_some}
use Rattle.sb_meaning.specs.Terms.{Sort, boolean, integer, reglan, Term, Terms, text, constant, word, apply, parameter, no_terms, with_term, terms_in}
use Rattle.sb_meaning.specs.Terms as symbol
use Rattle.sb_meaning.specs.Sorts.{sort_of, is_same_sort}
use Rattle.sb_meaning.specs.Truth.{is_chain, are_pairs}
use Rattle.sb_script.specs.Brought.{is_regex, are_regexes, is_text, is_structure, are_structure}
use Rattle.sb_script.specs.Sums.{Variable}
use Rattle.sb_script.specs.Fragment.{variables_in, variables_in_each, are_bounded, is_unmarked, fits, each_fits, is_affix_pair, of_two, is_word_pair, is_linear_pair, is_decided}
use Rattle.sb_script.specs.Fragment.{are_inside, are_in_fragment}
use Rattle.sb_script.specs.Pieces.{Piece, word_of, are_single, pieces_of, single_pieces, ground_word, whole_word}
use Rattle.sb_script.specs.Sizes.{is_regular}
use Rattle.sb_script.specs.State.{Assertion, asserted, a_mark, live, terms_in as asserted_terms}
use Rattle.sb_fragment.specs.Compared.{each_two}
use Rattle.sb_fragment.specs.Rules.{FragmentIsOfEach}
use Rattle.sb_fragment.proofs.ComparedPairs.{two_all}

-- Words and regular expressions.

text_free : (t : Term) → is_text t ≡ true → variables_in t ≡ []
text_free (word w) h = refl
text_free (apply symbol.str_concat terms) h = refl
text_free _ h = absurd (false≢true h)

joined : (R : Term) (Rs : Terms) → (is_regex R && are_regexes Rs) ≡ true → (is_regex R ≡ true → variables_in R ≡ [])
    → (are_regexes Rs ≡ true → variables_in_each Rs ≡ []) → variables_in_each (with_term R Rs) ≡ []
joined R Rs h one rest = let parts = and_parts (is_regex R) (are_regexes Rs) h in
    ap₂ (λ xs ys. xs ++ ys) (one parts.0) (rest parts.1)

mutual
  no_variables : (R : Term) → is_regex R ≡ true → variables_in R ≡ []
  no_variables (apply symbol.str_to_re (with_term t no_terms)) h = ap (λ xs. xs ++ []) (text_free t h)
  no_variables (apply symbol.re_range (with_term s (with_term t no_terms))) h =
      let both = and_parts (is_text s) (is_text t) h in
      ap₂ (λ xs ys. xs ++ (ys ++ [])) (text_free s both.0) (text_free t both.1)
  no_variables (apply symbol.re_concat (with_term R Rs)) h = joined R Rs h (no_variables R) (no_variables_in_each Rs)
  no_variables (apply symbol.re_union (with_term R Rs)) h = joined R Rs h (no_variables R) (no_variables_in_each Rs)
  no_variables (apply symbol.re_none no_terms) h = refl
  no_variables (apply symbol.re_all no_terms) h = refl
  no_variables (apply symbol.re_allchar no_terms) h = refl
  no_variables (apply symbol.re_inter (with_term R Rs)) h = joined R Rs h (no_variables R) (no_variables_in_each Rs)
  no_variables (apply symbol.re_diff (with_term R Rs)) h = joined R Rs h (no_variables R) (no_variables_in_each Rs)
  no_variables (apply symbol.re_opt (with_term R no_terms)) h = ap (λ xs. xs ++ []) (no_variables R h)
  no_variables (apply symbol.re_comp (with_term R no_terms)) h = ap (λ xs. xs ++ []) (no_variables R h)
  no_variables (apply (symbol.re_power n) (with_term R no_terms)) h = ap (λ xs. xs ++ []) (no_variables R h)
  no_variables (apply (symbol.re_loop n m) (with_term R no_terms)) h = ap (λ xs. xs ++ []) (no_variables R h)
  no_variables (apply symbol.re_star (with_term R no_terms)) h = ap (λ xs. xs ++ []) (no_variables R h)
  no_variables (apply symbol.re_plus (with_term R no_terms)) h = ap (λ xs. xs ++ []) (no_variables R h)
  no_variables R h = absurd (false≢true h)

  no_variables_in_each : (Rs : Terms) → are_regexes Rs ≡ true → variables_in_each Rs ≡ []
  no_variables_in_each no_terms h = refl
  no_variables_in_each (with_term R Rs) h = joined R Rs h (no_variables R) (no_variables_in_each Rs)

-- String terms that have pieces.

piece_free : (t : Term) (ps : List Piece) → pieces_of t ≡ Some ps → variables_in t ≡ []
piece_free (constant serial text) ps e = refl
piece_free (word w) ps e = refl
piece_free (apply symbol.str_concat terms) ps e = refl
piece_free _ ps e = absurd (none-some ps e)

some_free : (t : Term) → is_some (pieces_of t) ≡ true → variables_in t ≡ []
some_free t h = step (pieces_of t) refl h
  where
    step : (o : Option (List Piece)) → pieces_of t ≡ o → is_some o ≡ true → variables_in t ≡ []
    step None e h = absurd (false≢true h)
    step (Some ps) e h = piece_free t ps e

single_free : (t : Term) → is_some (single_pieces t) ≡ true → variables_in t ≡ []
single_free t h = some_free t (then_some (λ ps. if are_single ps then Some ps else None) (pieces_of t) h)

ground_free : (t : Term) → is_some (ground_word t) ≡ true → variables_in t ≡ []
ground_free t h = some_free t (then_some word_of (pieces_of t) h)

-- What is compared.

pair_free : (t u : Term) → is_word_pair t u ≡ true → (variables_in t ≡ []) × (variables_in u ≡ [])
pair_free t u h = step (ground_word u) refl h
  where
    step : (o : Option (List ℕ)) → ground_word u ≡ o
        → elim o as (λ _. Bool) [
          | Some w ↦ is_some (single_pieces t)
          | None ↦ is_some (ground_word t) && is_some (single_pieces u)
        ] ≡ true → (variables_in t ≡ []) × (variables_in u ≡ [])
    step (Some w) e h = (single_free t h, ground_free u (ap is_some e))
    step None e h =
        let parts = and_parts (is_some (ground_word t)) (is_some (single_pieces u)) h in
        (ground_free t parts.0, single_free u parts.1)

each_free : (ts : Terms)
    → ((k : ℕ) (d : Term) → k < length (terms_in ts) → variables_in (get_or (terms_in ts) k d) ≡ [])
    → variables_in_each ts ≡ []
each_free no_terms h = refl
each_free (with_term t ts) h =
    ap₂ (λ xs ys. xs ++ ys) (h 0 t (omega arith)) (each_free ts (λ k d l. h (suc k) d (omega (arith, l))))

-- one String term alone
alone_free : (t : Term) → is_same_sort text (sort_of t) ≡ true → variables_in t ≡ []
alone_free (constant serial text) h = refl
alone_free (word w) h = refl
alone_free (apply symbol.str_concat terms) h = refl
alone_free (parameter place sort) h = refl
alone_free _ h = absurd (false≢true h)

words_free : (distinct : Bool) (t : Term) (ts : Terms) → sort_of t ≡ text
    → each_two distinct is_word_pair (t ∷ terms_in ts) ≡ true → variables_in_each (with_term t ts) ≡ []
words_free distinct t no_terms sort h = ap (λ xs. xs ++ []) (alone_free t (ap (is_same_sort text) sort))
words_free distinct t (with_term v ts) sort h =
    let all = two_all distinct is_word_pair (λ x. variables_in x ≡ []) t v (terms_in ts) pair_free h in
    ap₂ (λ xs ys. xs ++ ys) all.0 (ap₂ (λ xs ys. xs ++ ys) all.1.0 (each_free ts all.1.1))

-- Affixes.

affix_free : (part whole : Term) → is_affix_pair part whole ≡ true
    → (variables_in part ≡ []) × (variables_in whole ≡ [])
affix_free part whole h = step (ground_word part) refl h
  where
    step : (o : Option (List ℕ)) → ground_word part ≡ o
        → elim o as (λ _. Bool) [
          | Some w ↦ is_some (single_pieces whole)
          | None ↦ is_some (whole_word whole) && is_some (single_pieces part)
        ] ≡ true → (variables_in part ≡ []) × (variables_in whole ≡ [])
    step (Some w) e h = (ground_free part (ap is_some e), single_free whole h)
    step None e h =
        let parts = and_parts (is_some (whole_word whole)) (is_some (single_pieces part)) h in (
          single_free part parts.1,
          ground_free whole
              (then_some (λ w. if nat_le (length w) 1000 then Some w else None) (ground_word whole) parts.0),
        )

two_free : (test : Term → Term → Bool) (terms : Terms) → of_two test (terms_in terms) ≡ true
    → ((s t : Term) → test s t ≡ true → (variables_in s ≡ []) × (variables_in t ≡ [])) → variables_in_each terms ≡ []
two_free test (with_term s (with_term t no_terms)) h both = let free = both s t h in
    ap₂ (λ xs ys. xs ++ (ys ++ [])) free.0 free.1
two_free test _ h both = absurd (false≢true h)

contained_free : (whole part : Term) → is_affix_pair part whole ≡ true
    → (variables_in whole ≡ []) × (variables_in part ≡ [])
contained_free whole part h = let free = affix_free part whole h in (free.1, free.0)

by_sort : (k : Sort) (truths fit sums words : Bool) (vs : List Variable)
    → elim k as (λ _. Bool) [ boolean ↦ truths | integer ↦ false | text ↦ true | reglan ↦ false ] ≡ true
    → elim k as (λ _. Bool) [ boolean ↦ fit | integer ↦ sums | text ↦ words | reglan ↦ false ] ≡ true
    → (truths ≡ true → fit ≡ true → vs ≡ []) → (k ≡ text → words ≡ true → vs ≡ []) → vs ≡ []
by_sort boolean truths fit sums words vs h k f g = f h k
by_sort integer truths fit sums words vs h k f g = absurd (false≢true h)
by_sort text truths fit sums words vs h k f g = g refl k
by_sort reglan truths fit sums words vs h k f g = absurd (false≢true h)

mutual
  of_structure : (t : Term) → is_structure t ≡ true → fits t ≡ true → variables_in t ≡ []
  of_structure (constant serial boolean) h f = refl
  of_structure (apply symbol.core_true terms) h f = of_each terms h f
  of_structure (apply symbol.core_false terms) h f = of_each terms h f
  of_structure (apply symbol.core_not terms) h f = of_each terms h f
  of_structure (apply symbol.core_and terms) h f = of_each terms h f
  of_structure (apply symbol.core_or terms) h f = of_each terms h f
  of_structure (apply symbol.core_implies terms) h f = of_each terms h f
  of_structure (apply symbol.core_xor terms) h f = of_each terms h f
  of_structure (apply symbol.core_ite terms) h f = of_each terms h f
  of_structure (apply symbol.core_equal no_terms) h f = refl
  of_structure (apply symbol.core_equal (with_term t ts)) h f =
      by_sort (sort_of t) (are_structure (with_term t ts)) (each_fits (with_term t ts))
      (is_chain is_linear_pair (t ∷ terms_in ts)) (is_chain is_word_pair (t ∷ terms_in ts))
      (variables_in_each (with_term t ts)) h f (of_each (with_term t ts))
      (words_free false t ts)
  of_structure (apply symbol.core_distinct no_terms) h f = refl
  of_structure (apply symbol.core_distinct (with_term t ts)) h f =
      by_sort (sort_of t) (are_structure (with_term t ts)) (each_fits (with_term t ts))
      (are_pairs is_linear_pair (t ∷ terms_in ts)) (are_pairs is_word_pair (t ∷ terms_in ts))
      (variables_in_each (with_term t ts)) h f (of_each (with_term t ts))
      (words_free true t ts)
  of_structure (apply symbol.str_in_re (with_term t (with_term R no_terms))) h f =
      let parts = and_parts (is_some (single_pieces t)) (is_regular R) f in
      ap₂ (λ xs ys. xs ++ (ys ++ [])) (single_free t parts.0) (no_variables R h)
  of_structure (apply symbol.str_prefixof terms) h f = two_free is_affix_pair terms f affix_free
  of_structure (apply symbol.str_suffixof terms) h f = two_free is_affix_pair terms f affix_free
  of_structure (apply symbol.str_contains terms) h f =
      two_free (λ whole part. is_affix_pair part whole) terms f contained_free
  of_structure _ h f = absurd (false≢true h)

  of_each : (ts : Terms) → are_structure ts ≡ true → each_fits ts ≡ true
      → variables_in_each ts ≡ []
  of_each no_terms h f = refl
  of_each (with_term t ts) h f =
      let structure = and_parts (is_structure t) (are_structure ts) h in
      let within = and_parts (fits t) (each_fits ts) f in
      ap₂ (λ xs ys. xs ++ ys) (of_structure t structure.0 within.0) (of_each ts structure.1 within.1)

-- All assertions.

no_bounds : (all : List Assertion) → are_inside all ≡ true → list_all fits (asserted_terms all) ≡ true
    → flat_map variables_in (asserted_terms all) ≡ []
no_bounds [] h f = refl
no_bounds (asserted t ∷ all) h f =
    let parts = and_parts (is_structure t) (are_inside all) h in
    let within = and_parts (fits t) (list_all fits (asserted_terms all)) f in
    ap₂ (λ xs ys. xs ++ ys) (of_structure t parts.0 within.0) (no_bounds all parts.1 within.1)
no_bounds (a_mark ∷ all) h f = absurd (false≢true h)

unmarked : (all : List Assertion) → are_inside all ≡ true → list_all is_unmarked all ≡ true
unmarked [] h = refl
unmarked (asserted t ∷ all) h = unmarked all (and_parts (is_structure t) (are_inside all) h).1
unmarked (a_mark ∷ all) h = absurd (false≢true h)

fits_of_each : (all : List Assertion) → are_inside all ≡ true
    → list_all fits (asserted_terms all) ≡ list_all is_decided all
fits_of_each [] h = refl
fits_of_each (asserted t ∷ all) h = let parts = and_parts (is_structure t) (are_inside all) h in
    ap (λ b. fits t && b) (fits_of_each all parts.1)
    ∙ ap (λ b. (b && fits t) && list_all is_decided all) (sym parts.0)
fits_of_each (a_mark ∷ all) h = absurd (false≢true h)

outside : (m f b d : Bool) → (m && b) ≡ false → (b ≡ false → d ≡ false) → ((m && f) && d) ≡ false
outside true true b d h k = k h
outside true false b d h k = refl
outside false f b d h k = refl

none_decided : (all : List Assertion) → are_inside all ≡ false → list_all is_decided all ≡ false
none_decided [] h = absurd (false≢true (sym h))
none_decided (asserted t ∷ all) h =
    outside (is_structure t) (fits t) (are_inside all) (list_all is_decided all) h (none_decided all)
none_decided (a_mark ∷ all) h = refl

of_three : (u f b d : Bool) → u ≡ true → f ≡ d → (f ≡ true → b ≡ true) → ((u && (f && b)) && true) ≡ d
of_three true true true d p q r = q
of_three true true false d p q r = absurd (false≢true (r refl))
of_three true false b d p q r = q
of_three false f b d p q r = absurd (false≢true p)

bounded : (all : List Assertion) → are_inside all ≡ true → list_all fits (asserted_terms all) ≡ true
    → are_bounded (asserted_terms all) ≡ true
bounded all h f = rw (no_bounds all h f) refl

all_of : (all : List Assertion) → (are_in_fragment all && are_inside all) ≡ list_all is_decided all
all_of all = step (are_inside all) refl
  where
    step : (b : Bool) → are_inside all ≡ b → (are_in_fragment all && are_inside all) ≡ list_all is_decided all
    step true h = ap (λ b. are_in_fragment all && b) h
        ∙ of_three (list_all is_unmarked all) (list_all fits (asserted_terms all)) (are_bounded (asserted_terms all))
        (list_all is_decided all) (unmarked all h) (fits_of_each all h) (bounded all h)
    step false h = ap (λ b. are_in_fragment all && b) h ∙ (and-false (are_in_fragment all) ∙ sym (none_decided all h))

pub fragment_is_of_each : FragmentIsOfEach
fragment_is_of_each s = all_of (live s)
