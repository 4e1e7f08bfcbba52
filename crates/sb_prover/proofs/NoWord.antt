-- No values make the assertions true that ask for a word of a constant that has none.
use Rattle.sb_prover.proofs.Words.{◌≡◌, ℕ, zero, suc, Bool, true, List, [], ◌∷◌, map, get_or, slice_get, Option, Some, None, refl, sym, ap, ◌∙◌, arith, All, AreRegexesAt, AreTrueAt, Assertion, IsClash, IsPlaceOf, IsRegexAt, IsWord, NormalHasTermsWords, Regex, Sort, Stacked, Term, a_mark, and_from, and_parts, are_characters, are_words, are_words_there, asserted, decided_kind, demanded_holds, demanded_speaks, false≢true, holds, is_word_there, list_all, live, live_constants, live_terms, same_Some, slice_get_within, speaks_of, state_of, terms_in, text, value_there, values_at, word_in, word_or_empty, word_there, All-head, All-tail, Contains-get_or, language, normal}
use Rattle.sb_prover.proofs.Given.{same_term}
use Rattle.sb_prover.proofs.Meant.{demanded-means}

-- a live term speaks of live constants
term-speaks : (cs : List (ℕ × Sort)) (assertions : List Assertion) (place : ℕ) (t : Term) → list_all (speaks_of cs)
    (terms_in assertions) ≡ true → slice_get assertions place ≡ Some (asserted t) → speaks_of cs t ≡ true
term-speaks cs [] place t h there = absurd (omega (arith, slice_get_within [] place (asserted t) there))
term-speaks cs (asserted u ∷ rest) zero t h there =
    ap (speaks_of cs) (sym (same_term u t (same_Some (asserted u) (asserted t) there)))
    ∙ (and_parts (speaks_of cs u) (list_all (speaks_of cs) (terms_in rest)) h).0
term-speaks cs (asserted u ∷ rest) (suc place) t h there =
    term-speaks cs rest place t (and_parts (speaks_of cs u) (list_all (speaks_of cs) (terms_in rest)) h).1 there
term-speaks cs (a_mark ∷ rest) zero t h there = absurd (cc (there))
term-speaks cs (a_mark ∷ rest) (suc place) t h there = term-speaks cs rest place t h there

-- The words that are there, and empty ones for the others.

full-words : (words : List (Option (List ℕ))) → are_words_there words ≡ true
    → are_words (map word_or_empty words) ≡ true
full-words [] h = refl
full-words (o ∷ words) h =
    let parts = and_parts (is_word_there o) (are_words_there words) h in
    and_from (are_characters (word_or_empty o)) (are_words (map word_or_empty words)) (one o parts.0)
    (full-words words parts.1)
  where
    one : (x : Option (List ℕ)) → is_word_there x ≡ true → are_characters (word_or_empty x) ≡ true
    one None k = refl
    one (Some w) k = k

full-in : (words : List (Option (List ℕ))) (n : ℕ)
    → word_in (map word_or_empty words) n ≡ word_or_empty (word_there words n)
full-in [] n = refl
full-in (o ∷ words) zero = refl
full-in (o ∷ words) (suc n) = full-in words n

a-word : (ws : List (List ℕ)) (n : ℕ) → are_words ws ≡ true → IsWord (word_in ws n)
a-word [] n h = refl
a-word (w ∷ ws) zero h = (and_parts (are_characters w) (are_words ws) h).0
a-word (w ∷ ws) (suc n) h = a-word ws n (and_parts (are_characters w) (are_words ws) h).1

-- What is asked at a place.

-- the word is in the regex of what the assertion at the place asks
record IsAskedAt (assertions : List Assertion) (w : List ℕ) (place : ℕ) : Type 0 where
  regex : Regex
  is : IsRegexAt assertions place regex
  member : language regex w ≡ true

asked-at : NormalHasTermsWords → (cs : List (ℕ × Sort)) (assertions : List Assertion) (serial : ℕ) (ws : List (List ℕ))
    (truths : List Bool) (place : ℕ) → list_all (speaks_of cs) (terms_in assertions) ≡ true → are_words ws ≡ true
    → (p : IsPlaceOf assertions serial place) → holds p.term (values_at cs ws truths) ≡ true
    → IsAskedAt assertions (word_in ws serial) place
asked-at law cs assertions serial ws truths place named words p h =
    let m = demanded-means p.term serial p.regex p.asks p.decided in
    let value = value_there cs ws truths serial text
    (demanded_speaks cs p.term serial p.regex p.asks (term-speaks cs assertions place p.term named p.there)) in
    record {
      regex = normal m.reglan;
      is = record {
        term = p.term;
        serial = serial;
        expression = p.regex;
        reglan = m.reglan;
        there = p.there;
        asks = p.asks;
        means = m.means;
        is = refl;
      };
      member = law m.reglan (word_in ws serial) (a-word ws serial words)
          ∙ sym (demanded_holds (values_at cs ws truths) p.term serial p.regex m.reglan (word_in ws serial) p.asks
          (decided_kind p.term serial p.regex p.asks p.decided) (m.means (values_at cs ws truths)) value)
          ∙ h;
    }

all-asked : (assertions : List Assertion) (w : List ℕ) (places : List ℕ) → All (IsAskedAt assertions w) places
    → (rs : List Regex) × AreRegexesAt assertions places rs × (list_all (λ r. language r w) rs ≡ true)
all-asked assertions w [] h = ([], tt, refl)
all-asked assertions w (place ∷ places) h =
    let first = All-head (IsAskedAt assertions w) place places h in
    let rest = all-asked assertions w places (All-tail (IsAskedAt assertions w) place places h) in (
      first.regex ∷ rest.0,
      (first.is, rest.1),
      and_from (language first.regex w) (list_all (λ r. language r w) rest.0) first.member rest.2,
    )

-- No values make them true.
pub never-true : NormalHasTermsWords → (s : Stacked) (places : List ℕ) (words : List (Option (List ℕ)))
    (truths : List Bool) → IsClash s places → list_all (speaks_of (live_constants s)) (live_terms (state_of s)) ≡ true
    → are_words_there words ≡ true → AreTrueAt s places words truths → ⊥
never-true law s places words truths clash named characters are =
    false≢true (sym (clash.none found.0 found.1 w (a-word full clash.serial those)) ∙ found.2)
  where
    full : List (List ℕ)
    full = map word_or_empty words

    those : are_words full ≡ true
    those = full-words words characters

    w : List ℕ
    w = word_in full clash.serial

    found : (rs : List Regex) × AreRegexesAt (live (state_of s)) places rs × (list_all (λ r. language r w) rs ≡ true)
    found = all-asked (live (state_of s)) w places (λ i d l.
        let p = clash.are i d l in
        asked-at law (live_constants s) (live (state_of s)) clash.serial full truths (get_or places i d) named those p
        (are full truths those (λ n o. (full-in words n, refl)) (get_or places i d) p.term
        (Contains-get_or places i d l) p.there))
