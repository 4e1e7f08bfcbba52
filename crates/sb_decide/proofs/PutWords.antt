-- Words that a search found are put in their places.
use Rattle.sb_decide.proofs.Words.{◌≡◌, ◌≢◌, ℕ, ◌<◌, true, false, ◌||◌, ◌==◌, List, [], ◌∷◌, ◌++◌, ◌+◌, length, get_or, take, Option, None, refl, sym, ap, subst, ◌∙◌, arith, All, ArePut, Conjoined, IsPutAt, Serial, are_words, conjoined_at, eqb-false, false≢true, get_or-set_other, get_or-set_same, is_listed, length-set, list_any-append, or_parts, take_more, true_from_ne_false, word_at, word_found}
use Rattle.sb_decide.proofs.Constants.{changed_by, listed_last}
use Rattle.sb_decide.proofs.KeptWords.{words_set}
use Rattle.sb_decide.proofs.MemberFacts.{by_number}

pub put_none : (cs : List Conjoined) (words : List (List ℕ)) (found : List (Option (List ℕ)))
    → ArePut cs cs words words [] found
put_none cs words found = record {
  same_length = refl;
  long = refl;
  places = λ n. refl;
  given = λ n h. absurd (false≢true h);
  others = λ n h. (refl, refl);
  characters = λ h. h;
}

pub put_next : (old new new' : List Conjoined) (words full full' : List (List ℕ)) (serials : List Serial) (x : Serial)
    (found : List (Option (List ℕ))) → ArePut old new words full serials found → x.0 < length words
    → IsPutAt new new' full full' x.0 (word_found found x.0) → ArePut old new' words full' (serials ++ x ∷ []) found
put_next old new new' words full full' serials x found p low put = record {
  same_length = put.constants.same_length ∙ p.same_length;
  long = ap length put.given ∙ length-set full x.0 (word_found found x.0) ∙ p.long;
  places = λ n. changed_by (λ c. c.places) new new' x.0 _ put.constants refl n ∙ p.places n;
  given = by_number (λ n. is_listed (serials ++ x ∷ []) n ≡ true
      → (word_at full' n ≡ word_found found n) × ((conjoined_at new' n).known ≡ None)) x.0
      (λ _. (
        ap (λ ws. word_at ws x.0) put.given
            ∙ get_or-set_same full x.0 (word_found found x.0) [] (omega (arith, low, p.long)),
        ap (λ (c : Conjoined). c.known) put.constants.there,
      ))
      (λ n e h.
      let before = p.given n (listed_before n e h) in
      (elsewhere n e ∙ before.0, ap (λ (c : Conjoined). c.known) (put.constants.others n e) ∙ before.1));
  others = λ n h.
      let apart = or_parts (is_listed serials n) ((x.0 == n) || false)
      (sym (list_any-append (λ (serial : Serial). serial.0 == n) serials (x ∷ [])) ∙ h) in
      let other = (or_parts (x.0 == n) false apart.1).0 in
      let before = p.others n apart.0 in
      let e : n ≢ x.0 = λ same. eqb-false x.0 n other (sym same) in
      (elsewhere n e ∙ before.0, put.constants.others n e ∙ before.1);
  characters = λ h. ap are_words put.given
      ∙ words_set full x.0 (word_found found x.0) (p.characters h) put.characters;
}
  where
    elsewhere : (n : ℕ) → n ≢ x.0 → word_at full' n ≡ word_at full n
    elsewhere n e =
        ap (λ ws. word_at ws n) put.given ∙ get_or-set_other full x.0 n (word_found found x.0) [] e

    listed_before : (n : ℕ) → n ≢ x.0 → is_listed (serials ++ x ∷ []) n ≡ true → is_listed serials n ≡ true
    listed_before n e h =
        true_from_ne_false (is_listed serials n) (λ t. false≢true (sym (listed_last serials x n t e) ∙ h))

-- the next of the constants
pub put_taken : (old new new' : List Conjoined) (words full full' : List (List ℕ)) (serials : List Serial) (i : ℕ)
    (d : Serial) (found : List (Option (List ℕ))) → i < length serials
    → All (λ serial. serial.0 < length old) serials → length words ≡ length old
    → ArePut old new words full (take i serials) found
    → IsPutAt new new' full full' (get_or serials i d).0 (word_found found (get_or serials i d).0)
    → ArePut old new' words full' (take (i + 1) serials) found
put_taken old new new' words full full' serials i d found low within long p put =
    let below = within i d low in
    subst (λ (xs : List Serial). ArePut old new' words full' xs found) (sym (take_more serials i d low))
    (put_next old new new' words full full' (take i serials) (get_or serials i d) found p (omega (arith, below, long))
    put)
