-- Terms that ask something of one constant's word, among others: which they are, and which constants they speak of.
use Rattle.sb_decide.proofs.Words.{◌≡◌, ℕ, Bool, true, false, not, ◌||◌, ◌&&◌, ◌==◌, Option, Some, None, List, [], ◌∷◌, if◌then◌else◌, refl, sym, ap, subst, ◌∙◌, Assertion, Sort, Term, Text, Valuation, a_mark, about, all_hold, and_parts, asking, asks_of, asserted, constant, demanded, eqb-true, false≢true, fits, holds, is_about, is_demand, is_member, is_plain_assertion, is_plain_term, list_all, occurs, speaks_of, terms_in, text, words_asked}
use Rattle.sb_decide.proofs.DemandFacts.{demand_in, demanded_about, demanded_occurs, demanded_speaks}

-- it asks something of this constant alone
pub asks_same : (n : ℕ) (t : Term) (serial : ℕ) (R : Term) → demanded t ≡ Some (serial, R)
    → asks_of n t ≡ (n == serial)
asks_same n t serial R h =
    ap (λ (o : Option (ℕ × Term)). elim o as (λ _. Bool) [ Some p ↦ n == p.0 | None ↦ false ]) h

-- a term that asks for no constant's word alone asks nothing of this one
pub asks_nothing : (n : ℕ) (t : Term) → demanded t ≡ None → asks_of n t ≡ false
asks_nothing n t h =
    ap (λ (o : Option (ℕ × Term)). elim o as (λ _. Bool) [ Some p ↦ n == p.0 | None ↦ false ]) h

-- and the words that are asked for are those without it
pub words_apart : (n : ℕ) (t : Term) (ts : List Term) (w : List ℕ) → asks_of n t ≡ false
    → words_asked n (t ∷ ts) w ≡ words_asked n ts w
words_apart n t ts w e =
    ap (λ (b : Bool). all_hold (if b then t ∷ asking n ts else asking n ts) ((n, Text w) ∷ [])) e

-- those that ask something are true where each one is true or asks nothing
pub asking_all : (n : ℕ) (ts : List Term) (v : Valuation)
    → all_hold (asking n ts) v ≡ list_all (λ t. not (asks_of n t) || holds t v) ts
asking_all n [] v = refl
asking_all n (t ∷ ts) v = by (asks_of n t) (asking_all n ts v)
  where
    by : (b : Bool) → all_hold (asking n ts) v ≡ list_all (λ u. not (asks_of n u) || holds u v) ts
        → all_hold (if b then t ∷ asking n ts else asking n ts) v
        ≡ ((not b || holds t v) && list_all (λ u. not (asks_of n u) || holds u v) ts)
    by true e = ap (λ b. holds t v && b) e
    by false e = e

-- What a term asks of a constant's word.
pub record IsAskedOf (n : ℕ) (t : Term) : Type 0 where
  pub expression : Term
  pub asks : demanded t ≡ Some (n, expression)

pub asks_in : (n : ℕ) (t : Term) → asks_of n t ≡ true → IsAskedOf n t
asks_in n t h = step (demanded t) refl h
  where
    step : (o : Option (ℕ × Term)) → demanded t ≡ o
        → elim o as (λ _. Bool) [ Some p ↦ n == p.0 | None ↦ false ] ≡ true → IsAskedOf n t
    step (Some p) is h = record {
      expression = p.1;
      asks = subst (λ (m : ℕ). demanded t ≡ Some (m, p.1)) (sym (eqb-true n p.0 h)) is;
    }
    step None is h = absurd (false≢true h)

-- a constant of whose word something is asked is one of those that are spoken of
pub asked_speaks : (ns : List (ℕ × Sort)) (n : ℕ) (ts : List Term) (w : List ℕ) → list_all (speaks_of ns) ts ≡ true
    → words_asked n ts w ≡ false → speaks_of ns (constant n text) ≡ true
asked_speaks ns n [] w named h = absurd (false≢true (sym h))
asked_speaks ns n (t ∷ ts) w named h = by (asks_of n t) refl (asked_speaks ns n ts w parts.1)
  where
    parts : (speaks_of ns t ≡ true) × (list_all (speaks_of ns) ts ≡ true)
    parts = and_parts (speaks_of ns t) (list_all (speaks_of ns) ts) named

    by : (b : Bool) → asks_of n t ≡ b → (words_asked n ts w ≡ false → speaks_of ns (constant n text) ≡ true)
        → speaks_of ns (constant n text) ≡ true
    by true e later = let one = asks_in n t e in demanded_speaks ns t n one.expression one.asks parts.0
    by false e later = later (sym (words_apart n t ts w e) ∙ h)

-- a term in which the constant does not occur asks nothing of it
pub occurs_not : (n : ℕ) (t : Term) → occurs n t ≡ false → asks_of n t ≡ false
occurs_not n t none = step (demanded t) refl
  where
    step : (o : Option (ℕ × Term)) → demanded t ≡ o
        → elim o as (λ _. Bool) [ Some p ↦ n == p.0 | None ↦ false ] ≡ false
    step (Some p) is = demanded_occurs n t p.0 p.1 is none
    step None is = refl

-- where each term is a membership or the negation of one, those that ask something of the constant are those about it
one_about : (n : ℕ) (t : Term) → is_demand t ≡ true → is_plain_term t ≡ true → is_about n t ≡ asks_of n t
one_about n t h plain =
    let d = demand_in t h in
    demanded_about n t d.serial d.expression d.asks plain ∙ sym (asks_same n t d.serial d.expression d.asks)

same_first : (b d : Bool) (t : Term) (ts us : List Term) → b ≡ d → ts ≡ us
    → (if b then t ∷ ts else ts) ≡ (if d then t ∷ us else us)
same_first b d t ts us e rest = rw (e, rest) refl

pub about_is : (n : ℕ) (all : List Assertion) → list_all is_member all ≡ true
    → list_all is_plain_assertion all ≡ true → about n (terms_in all) ≡ asking n (terms_in all)
about_is n [] h plain = refl
about_is n (a_mark ∷ all) h plain = absurd (false≢true h)
about_is n (asserted t ∷ all) h plain =
    let decided = and_parts (is_member (asserted t)) (list_all is_member all) h in
    let parts = and_parts (is_plain_term t) (list_all is_plain_assertion all) plain in
    same_first (is_about n t) (asks_of n t) t (about n (terms_in all)) (asking n (terms_in all))
    (one_about n t (and_parts (is_demand t) (fits t) decided.0).0 parts.0) (about_is n all decided.1 parts.1)
