-- Words give the values of a term that asks something of one constant's word.
use Rattle.std.proofs.Common.{◌≡◌, ℕ, Bool, true, List, [], Some, slice_get, unwrap_or, sym, subst}
use Rattle.std.proofs.lemmas.Bool.{and_parts, false≢true}
use Rattle.sb_meaning.specs.Terms.{Term, Terms, text, word, apply, no_terms, with_term}
use Rattle.sb_meaning.specs.Terms as symbol
use Rattle.sb_meaning.specs.Values.{Valuation, Text, value_in}
use Rattle.sb_script.specs.Brought.{asked, is_text, are_texts, is_regex, are_regexes}
use Rattle.sb_script.proofs.CallerLemmas.{IsAsking, a_membership, a_word_behind, a_word_in_front, asked_looks}
use Rattle.sb_atoms.specs.Given.{GivesValues, GivesEach}

-- no constant stands in a word
mutual
  text_given : (ws : List (List ℕ)) (bs : List Bool) (v : Valuation) (t : Term) → is_text t ≡ true
      → GivesValues ws bs v t
  text_given ws bs v (word w) h = tt
  text_given ws bs v (apply symbol.str_concat terms) h = texts_given ws bs v terms h
  text_given ws bs v _ h = absurd (false≢true h)

  texts_given : (ws : List (List ℕ)) (bs : List Bool) (v : Valuation) (terms : Terms) → are_texts terms ≡ true
      → GivesEach ws bs v terms
  texts_given ws bs v no_terms h = tt
  texts_given ws bs v (with_term t terms) h =
      let parts = and_parts (is_text t) (are_texts terms) h in
      (text_given ws bs v t parts.0, texts_given ws bs v terms parts.1)

-- nor in a regular expression over words
mutual
  regex_given : (ws : List (List ℕ)) (bs : List Bool) (v : Valuation) (R : Term) → is_regex R ≡ true
      → GivesValues ws bs v R
  regex_given ws bs v (apply symbol.str_to_re (with_term t no_terms)) h = (text_given ws bs v t h, tt)
  regex_given ws bs v (apply symbol.re_range (with_term s (with_term t no_terms))) h =
      let parts = and_parts (is_text s) (is_text t) h in
      (text_given ws bs v s parts.0, (text_given ws bs v t parts.1, tt))
  regex_given ws bs v (apply symbol.re_none no_terms) h = tt
  regex_given ws bs v (apply symbol.re_all no_terms) h = tt
  regex_given ws bs v (apply symbol.re_allchar no_terms) h = tt
  regex_given ws bs v (apply symbol.re_concat (with_term R Rs)) h = regexes_given ws bs v (with_term R Rs) h
  regex_given ws bs v (apply symbol.re_union (with_term R Rs)) h = regexes_given ws bs v (with_term R Rs) h
  regex_given ws bs v (apply symbol.re_inter (with_term R Rs)) h = regexes_given ws bs v (with_term R Rs) h
  regex_given ws bs v (apply symbol.re_diff (with_term R Rs)) h = regexes_given ws bs v (with_term R Rs) h
  regex_given ws bs v (apply symbol.re_star (with_term R no_terms)) h = (regex_given ws bs v R h, tt)
  regex_given ws bs v (apply symbol.re_plus (with_term R no_terms)) h = (regex_given ws bs v R h, tt)
  regex_given ws bs v (apply symbol.re_opt (with_term R no_terms)) h = (regex_given ws bs v R h, tt)
  regex_given ws bs v (apply symbol.re_comp (with_term R no_terms)) h = (regex_given ws bs v R h, tt)
  regex_given ws bs v (apply (symbol.re_power n) (with_term R no_terms)) h = (regex_given ws bs v R h, tt)
  regex_given ws bs v (apply (symbol.re_loop n m) (with_term R no_terms)) h = (regex_given ws bs v R h, tt)
  regex_given ws bs v _ h = absurd (false≢true h)

  regexes_given : (ws : List (List ℕ)) (bs : List Bool) (v : Valuation) (Rs : Terms) → are_regexes Rs ≡ true
      → GivesEach ws bs v Rs
  regexes_given ws bs v no_terms h = tt
  regexes_given ws bs v (with_term R Rs) h = let parts = and_parts (is_regex R) (are_regexes Rs) h in
      (regex_given ws bs v R parts.0, regexes_given ws bs v Rs parts.1)

-- the word of its constant is all that matters to a term that asks something of one constant's word
pub asked_given : (ws : List (List ℕ)) (bs : List Bool) (v : Valuation) (t : Term) (serial : ℕ) (R : Term)
    → asked t ≡ Some (serial, R) → is_regex R ≡ true
    → value_in v serial text ≡ Text (unwrap_or (slice_get ws serial) []) → GivesValues ws bs v t
asked_given ws bs v t serial R asks kind gives = step (asked_looks t serial R asks)
  where
    step : IsAsking serial t R → GivesValues ws bs v t
    step (a_membership is) =
        subst (GivesValues ws bs v) (sym is) (gives, (regex_given ws bs v R kind, tt))
    step (a_word_behind w is S) = subst (GivesValues ws bs v) (sym is) (gives, (tt, tt))
    step (a_word_in_front w is S) = subst (GivesValues ws bs v) (sym is) (tt, (gives, tt))

pub asked_value : (ws : List (List ℕ)) (bs : List Bool) (v : Valuation) (t : Term) (serial : ℕ) (R : Term)
    → asked t ≡ Some (serial, R) → GivesValues ws bs v t
    → value_in v serial text ≡ Text (unwrap_or (slice_get ws serial) [])
asked_value ws bs v t serial R asks gives = step (asked_looks t serial R asks)
  where
    step : IsAsking serial t R → value_in v serial text ≡ Text (unwrap_or (slice_get ws serial) [])
    step (a_membership is) = (subst (GivesValues ws bs v) is gives).0
    step (a_word_behind w is S) = (subst (GivesValues ws bs v) is gives).0
    step (a_word_in_front w is S) = (subst (GivesValues ws bs v) is gives).1.0
