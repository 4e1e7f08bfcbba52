-- Each term that is read is well sorted, where what the names in force stand for is.
use Rattle.std.proofs.Common.{◌≡◌, ℕ, zero, suc, Bool, true, false, not, ◌==◌, nat_le, if◌then◌else◌, List, [], ◌∷◌, map, length, slice_get, Some, None, unwrap_or, Ok, Err, refl, sym, ap, ap₂, ◌∙◌}
use Rattle.std.specs.Prelude.{is_none, is_some}
use Rattle.std.specs.List.{list_all}
use Rattle.std.proofs.lemmas.Bool.{and_parts, and_from, false≢true}
use Rattle.sb_word.specs.LiteralWords.{word_of_literal, first_bad}
use Rattle.sb_reader.specs.Forms.{Form}
use Rattle.sb_meaning.specs.Terms.{Sort, boolean, integer, text, reglan, Term, Terms, constant, word, numeral, apply, parameter, no_terms, with_term, terms_in, terms_of}
use Rattle.sb_meaning.specs.Terms as symbol
use Rattle.sb_meaning.specs.Sorts.{sort_of, is_same_sort, are_sorts, is_of_one}
use Rattle.sb_script.specs.Scopes.{Naming}
use Rattle.sb_script.specs.Faults.{bad_literal, numeral_too_large, wrong_count, wrong_sort}
use Rattle.sb_script.specs.Texts.{read_text, number_of}
use Rattle.sb_script.specs.Heads.{judged, joined, made, with_arguments, each_with_arguments, judged_definition}
use Rattle.sb_script.specs.Reading.{read}
use Rattle.sb_script.specs.WellSorted.{is_parameter_of, is_well_sorted_over, are_well_sorted_over}
use Rattle.sb_script.specs.ReadingLaws.{if_read, IsKept, is_sorted_naming}
use Rattle.sb_script.proofs.ReadingFacts.{by_test, reading_keeps}

-- Sorts.

pub same_sort : (k s : Sort) → is_same_sort k s ≡ true → s ≡ k
same_sort boolean boolean h = refl
same_sort integer integer h = refl
same_sort text text h = refl
same_sort reglan reglan h = refl
same_sort boolean integer h = absurd (false≢true h)
same_sort boolean text h = absurd (false≢true h)
same_sort boolean reglan h = absurd (false≢true h)
same_sort integer boolean h = absurd (false≢true h)
same_sort integer text h = absurd (false≢true h)
same_sort integer reglan h = absurd (false≢true h)
same_sort text boolean h = absurd (false≢true h)
same_sort text integer h = absurd (false≢true h)
same_sort text reglan h = absurd (false≢true h)
same_sort reglan boolean h = absurd (false≢true h)
same_sort reglan integer h = absurd (false≢true h)
same_sort reglan text h = absurd (false≢true h)

pub same_sort_itself : (k : Sort) → is_same_sort k k ≡ true
same_sort_itself boolean = refl
same_sort_itself integer = refl
same_sort_itself text = refl
same_sort_itself reglan = refl

-- Applications.

abbrev are_taken : symbol.Symbol → List Term → Bool
are_taken s ts = is_none (judged s (map sort_of ts))

pub terms_in_of : (ts : List Term) → terms_in (terms_of ts) ≡ ts
terms_in_of [] = refl
terms_in_of (t ∷ ts) = ap (λ us. t ∷ us) (terms_in_of ts)

module _ (ps : List Sort) where
  terms_sorted : (ts : List Term) → list_all (is_well_sorted_over ps) ts ≡ true
      → are_well_sorted_over ps (terms_of ts) ≡ true
  terms_sorted [] h = refl
  terms_sorted (t ∷ ts) h =
      let parts = and_parts (is_well_sorted_over ps t) (list_all (is_well_sorted_over ps) ts) h in
      and_from (is_well_sorted_over ps t) (are_well_sorted_over ps (terms_of ts)) parts.0 (terms_sorted ts parts.1)

  apply_sorted : (s : symbol.Symbol) (ts : List Term) → list_all (is_well_sorted_over ps) ts ≡ true
      → judged s (map sort_of ts) ≡ None → is_well_sorted_over ps (apply s (terms_of ts)) ≡ true
  apply_sorted s ts h taken =
      and_from (are_taken s (terms_in (terms_of ts))) (are_well_sorted_over ps (terms_of ts))
      (ap (are_taken s) (terms_in_of ts) ∙ ap is_none taken) (terms_sorted ts h)

  joined_sorted : (s : symbol.Symbol) (ts : List Term) → list_all (is_well_sorted_over ps) ts ≡ true
      → judged s (map sort_of ts) ≡ None → is_well_sorted_over ps (joined s ts) ≡ true
  joined_sorted s [] h taken = apply_sorted s [] h taken
  joined_sorted s (t ∷ []) h taken = (and_parts (is_well_sorted_over ps t) true h).0
  joined_sorted s (t ∷ u ∷ ts) h taken = apply_sorted s (t ∷ u ∷ ts) h taken

  made_sorted : (s : symbol.Symbol) (ts : List Term) → list_all (is_well_sorted_over ps) ts ≡ true
      → judged s (map sort_of ts) ≡ None → is_well_sorted_over ps (made s ts) ≡ true
  made_sorted s ts h taken = step (is_of_one s)
    where
      step : (b : Bool) → is_well_sorted_over ps (if b then joined s ts else apply s (terms_of ts)) ≡ true
      step true = joined_sorted s ts h taken
      step false = apply_sorted s ts h taken

-- Arguments in the places of parameters.

-- the argument at the place of a parameter, which has its sort
record IsAt (ps : List Sort) (t : Term) (sort : Sort) : Type 0 where
  sorted : is_well_sorted_over ps t ≡ true
  of_sort : sort_of t ≡ sort

argument_at : (ps own : List Sort) (ts : List Term) (place : ℕ) (sort : Sort) (other : Term)
    → are_sorts own (map sort_of ts) ≡ true → list_all (is_well_sorted_over ps) ts ≡ true
    → is_parameter_of own sort place ≡ true → IsAt ps (unwrap_or (slice_get ts place) other) sort
argument_at ps [] ts place sort other same all h = absurd (false≢true h)
argument_at ps (k ∷ ks) [] place sort other same all h = absurd (false≢true same)
argument_at ps (k ∷ ks) (t ∷ ts) zero sort other same all h =
    record {
      sorted = (and_parts (is_well_sorted_over ps t) (list_all (is_well_sorted_over ps) ts) all).0;
      of_sort = same_sort k (sort_of t) (and_parts (is_same_sort k (sort_of t)) (are_sorts ks (map sort_of ts)) same).0
          ∙ sym (same_sort k sort h);
    }
argument_at ps (k ∷ ks) (t ∷ ts) (suc place) sort other same all h =
    argument_at ps ks ts place sort other
    (and_parts (is_same_sort k (sort_of t)) (are_sorts ks (map sort_of ts)) same).1
    (and_parts (is_well_sorted_over ps t) (list_all (is_well_sorted_over ps) ts) all).1 h

module _ (ps own : List Sort) (ts : List Term) (same : are_sorts own (map sort_of ts) ≡ true)
    (all : list_all (is_well_sorted_over ps) ts ≡ true) where
  sort_kept : (body : Term) → is_well_sorted_over own body ≡ true → sort_of (with_arguments ts body) ≡ sort_of body
  sort_kept (constant serial sort) h = refl
  sort_kept (word w) h = refl
  sort_kept (numeral n) h = refl
  sort_kept (apply s terms) h = refl
  sort_kept (parameter place sort) h = (argument_at ps own ts place sort (parameter place sort) same all h).of_sort

  sorts_kept : (terms : Terms) → are_well_sorted_over own terms ≡ true
      → map sort_of (terms_in (each_with_arguments ts terms)) ≡ map sort_of (terms_in terms)
  sorts_kept no_terms h = refl
  sorts_kept (with_term t terms) h =
      let parts = and_parts (is_well_sorted_over own t) (are_well_sorted_over own terms) h in
      ap₂ ◌∷◌ (sort_kept t parts.0) (sorts_kept terms parts.1)

  mutual
    body_sorted : (body : Term) → is_well_sorted_over own body ≡ true
        → is_well_sorted_over ps (with_arguments ts body) ≡ true
    body_sorted (constant serial sort) h = refl
    body_sorted (word w) h = refl
    body_sorted (numeral n) h = refl
    body_sorted (apply s terms) h =
        let parts = and_parts (are_taken s (terms_in terms)) (are_well_sorted_over own terms) h in
        and_from (are_taken s (terms_in (each_with_arguments ts terms)))
        (are_well_sorted_over ps (each_with_arguments ts terms))
        (ap (λ sorts. is_none (judged s sorts)) (sorts_kept terms parts.1) ∙ parts.0) (each_sorted terms parts.1)
    body_sorted (parameter place sort) h =
        (argument_at ps own ts place sort (parameter place sort) same all h).sorted

    each_sorted : (terms : Terms) → are_well_sorted_over own terms ≡ true
        → are_well_sorted_over ps (each_with_arguments ts terms) ≡ true
    each_sorted no_terms h = refl
    each_sorted (with_term t terms) h =
        let parts = and_parts (is_well_sorted_over own t) (are_well_sorted_over own terms) h in
        and_from (is_well_sorted_over ps (with_arguments ts t)) (are_well_sorted_over ps (each_with_arguments ts terms))
        (body_sorted t parts.0) (each_sorted terms parts.1)

definition_sorted : (ps own : List Sort) (body : Term) (ts : List Term) → is_well_sorted_over own body ≡ true
    → list_all (is_well_sorted_over ps) ts ≡ true → judged_definition own (map sort_of ts) ≡ None
    → is_well_sorted_over ps (with_arguments ts body) ≡ true
definition_sorted ps own body ts h all taken =
    step (length own == length (map sort_of ts)) (are_sorts own (map sort_of ts)) refl taken
  where
    step : (b c : Bool) → are_sorts own (map sort_of ts) ≡ c
        → (if not b then Some wrong_count else if c then None else Some wrong_sort) ≡ None
        → is_well_sorted_over ps (with_arguments ts body) ≡ true
    step false c same taken = absurd (Prim.cc (taken))
    step true false same taken = absurd (Prim.cc (taken))
    step true true same taken = body_sorted ps own ts same all body h

-- Terms.

text_sorted : (ps : List Sort) (bytes : List ℕ) → if_read (is_well_sorted_over ps) (read_text bytes) ≡ true
text_sorted ps bytes =
    by_test (is_well_sorted_over ps) (is_some (first_bad bytes)) (Err bad_literal) (Ok (word (word_of_literal bytes))) refl
    refl

pub sorted_is_kept : IsKept is_well_sorted_over (λ serial sort. true)
sorted_is_kept = record {
  constants = λ ps serial sort h. refl;
  texts = text_sorted;
  numerals = λ ps digits.
      by_test (is_well_sorted_over ps) (nat_le (number_of digits) 0x7fffffff) (Ok (numeral (number_of digits)))
      (Err numeral_too_large) refl refl;
  characters = λ ps digits c h. refl;
  applications = made_sorted;
  definitions = definition_sorted;
}

pub read_is_well_sorted : (ps : List Sort) (names : List Naming) → list_all (is_sorted_naming ps) names ≡ true
    → (form : Form) (t : Term) → read names form ≡ Ok t → is_well_sorted_over ps t ≡ true
read_is_well_sorted ps names fit form t h =
    reading_keeps is_well_sorted_over (λ serial sort. true) sorted_is_kept ps names fit form t h
