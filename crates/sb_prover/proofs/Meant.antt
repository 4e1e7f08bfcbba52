-- What a decided assertion asks a constant's word to be in means the same regular expression under every valuation.
use Rattle.sb_prover.proofs.Words.{◌≡◌, ℕ, true, ◌&&◌, nat_le, [], ◌∷◌, Some, refl, sym, ap, ap₂, ◌∙◌, IsDemanding, Term, Terms, Valuation, a_denial, an_asking, and_from, and_parts, applied, apply, asked_regular, asserted, constant, decided_kind, demanded_looks, denied_fits, false≢true, is_decided, is_regex, is_structure, meaning_of, meanings_of, means_reglan, no_terms, numeral, parameter, with_term, word, RegLan, is_ground, are_ground, is_regular, has_short_words, size_of, demanded}
use Rattle.sb_meaning.specs.Terms as symbol
use Rattle.sb_script.specs.Fragment.{fits}

-- without constants
mutual
  ground-means : (v w : Valuation) (t : Term) → is_ground t ≡ true → meaning_of v t ≡ meaning_of w t
  ground-means v w (constant serial sort) h = absurd (false≢true h)
  ground-means v w (word u) h = refl
  ground-means v w (numeral n) h = refl
  ground-means v w (apply s terms) h = ap (applied s) (ground-mean v w terms h)
  ground-means v w (parameter place sort) h = absurd (false≢true h)

  ground-mean : (v w : Valuation) (ts : Terms) → are_ground ts ≡ true → meanings_of v ts ≡ meanings_of w ts
  ground-mean v w no_terms h = refl
  ground-mean v w (with_term t ts) h =
      let parts = and_parts (is_ground t) (are_ground ts) h in
      ap₂ (λ m ms. m ∷ ms) (ground-means v w t parts.0) (ground-mean v w ts parts.1)

regex-means : (R : Term) → is_regex R ≡ true → (r : RegLan) × (meaning_of [] R ≡ means_reglan r)
regex-means (apply symbol.str_to_re terms) h = (_, refl)
regex-means (apply symbol.re_range terms) h = (_, refl)
regex-means (apply symbol.re_none terms) h = (_, refl)
regex-means (apply symbol.re_all terms) h = (_, refl)
regex-means (apply symbol.re_allchar terms) h = (_, refl)
regex-means (apply symbol.re_concat terms) h = (_, refl)
regex-means (apply symbol.re_union terms) h = (_, refl)
regex-means (apply symbol.re_inter terms) h = (_, refl)
regex-means (apply symbol.re_diff terms) h = (_, refl)
regex-means (apply symbol.re_star terms) h = (_, refl)
regex-means (apply symbol.re_plus terms) h = (_, refl)
regex-means (apply symbol.re_opt terms) h = (_, refl)
regex-means (apply symbol.re_comp terms) h = (_, refl)
regex-means (apply (symbol.re_power n) terms) h = (_, refl)
regex-means (apply (symbol.re_loop n m) terms) h = (_, refl)
regex-means _ h = absurd (false≢true h)

pub record IsMeant (R : Term) : Type 0 where
  pub reglan : RegLan
  pub means : (v : Valuation) → meaning_of v R ≡ means_reglan reglan

regular-ground : (R : Term) → is_regular R ≡ true → is_ground R ≡ true
regular-ground R h = (and_parts (is_ground R) (has_short_words R && nat_le (size_of R) 1000000) h).0

demanded-ground : (t : Term) (serial : ℕ) (R : Term) → IsDemanding serial t R → fits t ≡ true → is_ground R ≡ true
demanded-ground t serial R (an_asking asks) fit = regular-ground R (sym (asked_regular t serial R asks) ∙ fit)
demanded-ground t serial R (a_denial u S is same asks) fit =
    ap is_ground same
    ∙ and_from (is_ground S) true (regular-ground S (sym (denied_fits t u serial S is asks) ∙ fit)) refl

pub demanded-means : (t : Term) (serial : ℕ) (R : Term) → demanded t ≡ Some (serial, R)
    → is_decided (asserted t) ≡ true → IsMeant R
demanded-means t serial R asks decided =
    let ground = demanded-ground t serial R (demanded_looks t serial R asks)
    (and_parts (is_structure t) (fits t) decided).1 in
    let m = regex-means R (decided_kind t serial R asks decided) in
    record { reglan = m.0; means = λ v. ground-means v [] R ground ∙ m.1 }
