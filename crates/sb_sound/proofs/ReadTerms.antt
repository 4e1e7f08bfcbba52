-- A term that is read fits the sorts, where the names in force do.
use Rattle.std.proofs.Common.{◌≡◌, ℕ, zero, suc, ◌<◌, Bool, true, false, not, if◌then◌else◌, nat_le, eqb, List, [], ◌∷◌, length, map, slice_get, Option, Some, None, unwrap_or, Ok, Err, refl, subst, ◌∙◌, arith}
use Rattle.std.specs.Prelude.{is_some}
use Rattle.std.specs.List.{list_all}
use Rattle.std.proofs.lemmas.List.{length-map}
use Rattle.std.proofs.lemmas.Bool.{and_parts, and_from, ltb-true, eqb-true}
use Rattle.sb_word.specs.Words.{is_character}
use Rattle.sb_word.specs.LiteralWords.{word_of_literal, first_bad}
use Rattle.sb_word.proofs.CallerLemmas.{text_is_word}
use Rattle.sb_reader.specs.Forms.{Form}
use Rattle.sb_meaning.specs.Terms.{Sort, Term, Terms, constant, word, numeral, apply, parameter, no_terms, with_term, terms_of}
use Rattle.sb_meaning.specs.Terms as symbol
use Rattle.sb_meaning.specs.Sorts.{is_of_one, sort_of, are_sorts}
use Rattle.sb_script.specs.Names.{Name}
use Rattle.sb_script.specs.Scopes.{Naming, named}
use Rattle.sb_script.specs.Reading.{read}
use Rattle.sb_rulebook.specs.AtomRules.{is_declared}
use Rattle.sb_sound.specs.TermLaws.{fits_sorts, all_fit}
use Rattle.sb_sound.specs.ScriptLaws.{fits_in, all_in, kind_fits, naming_fits}
use Rattle.sb_script.specs.Faults.{wrong_sort, wrong_count, numeral_too_large, bad_literal}
use Rattle.sb_script.specs.Heads.{joined, made, with_arguments, each_with_arguments, judged_definition}
use Rattle.sb_script.specs.Texts.{read_text, number_of, read_numeral}
use Rattle.sb_sound.proofs.ReadTexts.{if_character, character_spelled}
use Rattle.sb_script.proofs.CallerLemmas.{if_some, IsRead, found_named, read_keeps}
use Rattle.sb_script.specs.ReadingLaws.{if_read}

-- without parameters
mutual
  pub fits_without : (sorts : List Sort) (t : Term) → fits_in sorts 0 t ≡ true → fits_sorts sorts t ≡ true
  fits_without sorts (constant serial sort) h = h
  fits_without sorts (word w) h = h
  fits_without sorts (numeral n) h = refl
  fits_without sorts (apply s terms) h = all_without sorts terms h
  fits_without sorts (parameter place sort) h =
      let low : place < 0 = ltb-true place 0 h in absurd (omega (arith, low))

  all_without : (sorts : List Sort) (ts : Terms) → all_in sorts 0 ts ≡ true → all_fit sorts ts ≡ true
  all_without sorts no_terms h = refl
  all_without sorts (with_term t ts) h =
      let parts = and_parts (fits_in sorts 0 t) (all_in sorts 0 ts) h in
      and_from (fits_sorts sorts t) (all_fit sorts ts) (fits_without sorts t parts.0) (all_without sorts ts parts.1)

-- what a symbol makes of terms passes a test, where they do, and the symbol with them as arguments
pub made_passes : (p : Term → Bool) (s : symbol.Symbol) (ts : List Term) → p (apply s (terms_of ts)) ≡ true
    → list_all p ts ≡ true → p (made s ts) ≡ true
made_passes p s ts applied all = step (is_of_one s)
  where
    joins : (us : List Term) → p (apply s (terms_of us)) ≡ true → list_all p us ≡ true → p (joined s us) ≡ true
    joins [] h each = h
    joins (t ∷ []) h each = (and_parts (p t) true each).0
    joins (t ∷ u ∷ us) h each = h

    step : (b : Bool) → p (if b then joined s ts else apply s (terms_of ts)) ≡ true
    step true = joins ts applied all
    step false = applied

-- Arguments in the places of parameters.

module _ (sorts : List Sort) (n : ℕ) where
  got_fits : (ts : List Term) (place : ℕ) (other : Term) → place < length ts
      → list_all (fits_in sorts n) ts ≡ true → fits_in sorts n (unwrap_or (slice_get ts place) other) ≡ true
  got_fits [] place other low h = absurd (omega (arith, low))
  got_fits (t ∷ ts) zero other low h = (and_parts (fits_in sorts n t) (list_all (fits_in sorts n) ts) h).0
  got_fits (t ∷ ts) (suc place) other low h =
      got_fits ts place other (omega (arith, low)) (and_parts (fits_in sorts n t) (list_all (fits_in sorts n) ts) h).1

  module _ (ts : List Term) (all : list_all (fits_in sorts n) ts ≡ true) where
    mutual
      body_fits : (body : Term) → fits_in sorts (length ts) body ≡ true
          → fits_in sorts n (with_arguments ts body) ≡ true
      body_fits (constant serial sort) h = h
      body_fits (word w) h = h
      body_fits (numeral k) h = refl
      body_fits (apply s terms) h = each_fits terms h
      body_fits (parameter place sort) h =
          got_fits ts place (parameter place sort) (ltb-true place (length ts) h) all

      each_fits : (terms : Terms) → all_in sorts (length ts) terms ≡ true
          → all_in sorts n (each_with_arguments ts terms) ≡ true
      each_fits no_terms h = refl
      each_fits (with_term t terms) h =
          let parts = and_parts (fits_in sorts (length ts) t) (all_in sorts (length ts) terms) h in
          and_from (fits_in sorts n (with_arguments ts t)) (all_in sorts n (each_with_arguments ts terms))
          (body_fits t parts.0) (each_fits terms parts.1)

  -- Texts and numerals.

  text_fits : (bytes : List ℕ) → if_read (fits_in sorts n) (read_text bytes) ≡ true
  text_fits bytes = step (first_bad bytes) refl
    where
      step : (o : Option ℕ) → first_bad bytes ≡ o → if_read (fits_in sorts n)
          (if is_some o then Err bad_literal else Ok (word (word_of_literal bytes))) ≡ true
      step None h = text_is_word bytes h
      step (Some place) h = refl

  numeral_fits : (digits : List ℕ) → if_read (fits_in sorts n) (read_numeral digits) ≡ true
  numeral_fits digits = step (nat_le (number_of digits) 0x7fffffff)
    where
      step : (b : Bool) → if_read (fits_in sorts n)
          (if b then Ok (numeral (number_of digits)) else Err numeral_too_large) ≡ true
      step true = refl
      step false = refl

  -- Heads with their arguments.

  terms_fit : (ts : List Term) → list_all (fits_in sorts n) ts ≡ true → all_in sorts n (terms_of ts) ≡ true
  terms_fit [] h = refl
  terms_fit (t ∷ ts) h =
      let parts = and_parts (fits_in sorts n t) (list_all (fits_in sorts n) ts) h in
      and_from (fits_in sorts n t) (all_in sorts n (terms_of ts)) parts.0 (terms_fit ts parts.1)

  made_fits : (s : symbol.Symbol) (ts : List Term) → list_all (fits_in sorts n) ts ≡ true
      → fits_in sorts n (made s ts) ≡ true
  made_fits s ts h = made_passes (fits_in sorts n) s ts (terms_fit ts h) h

  definition_fits : (own : List Sort) (body : Term) (ts : List Term) → fits_in sorts (length own) body ≡ true
      → list_all (fits_in sorts n) ts ≡ true → judged_definition own (map sort_of ts) ≡ None
      → fits_in sorts n (with_arguments ts body) ≡ true
  definition_fits own body ts h all taken = step (eqb (length own) (length (map sort_of ts))) refl taken
    where
      step : (b : Bool) → eqb (length own) (length (map sort_of ts)) ≡ b
          → (if not b then Some wrong_count else if are_sorts own (map sort_of ts) then None else Some wrong_sort) ≡ None
          → fits_in sorts n (with_arguments ts body) ≡ true
      step true is taken =
          let same : length own ≡ length ts =
          eqb-true (length own) (length (map sort_of ts)) is ∙ length-map ts sort_of in
          body_fits ts all body (subst (λ (k : ℕ). fits_in sorts k body ≡ true) same h)
      step false is taken = absurd (Prim.cc (taken))

  abbrev is_declared_in : ℕ → Sort → Bool
  is_declared_in serial sort = is_declared sorts sort serial

  abbrev own_fits : List Sort → Term → Bool
  own_fits own body = fits_in sorts (length own) body

  fitting_is_read : IsRead (fits_in sorts n) is_declared_in own_fits
  fitting_is_read = record {
    constants = λ serial sort h. h;
    texts = text_fits;
    numbers = λ brought. numeral_fits;
    characters = λ digits c is.
        and_from (is_character c) true (subst (λ o. if_character o ≡ true) is (character_spelled digits)) refl;
    applications = λ s ts brought all taken. made_fits s ts all;
    definitions = definition_fits;
  }

  pub read_fits : (names : List Naming) → list_all (naming_fits sorts n) names ≡ true → (form : Form) (t : Term)
      → read names form ≡ Ok t → fits_in sorts n t ≡ true
  read_fits = read_keeps (fits_in sorts n) is_declared_in own_fits fitting_is_read

  pub named_fits : (names : List Naming) (name : Name) → list_all (naming_fits sorts n) names ≡ true
      → if_some (kind_fits sorts n) (named names name) ≡ true
  named_fits = found_named (fits_in sorts n) is_declared_in own_fits fitting_is_read
