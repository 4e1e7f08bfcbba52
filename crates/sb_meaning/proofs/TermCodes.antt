-- The code of a term, a list of numbers by which a model's value tells its terms apart.
use Rattle.std.proofs.Common.{◌≡◌, ℕ, false, true, nat_eq, List, [], ◌∷◌, refl, sym, ap, ap₂, ◌∙◌, arith}
use Rattle.std.specs.Coded.{Coded, coded_list, coded_ℕ}
use Rattle.std.proofs.lemmas.Bool.{false≢true}
use Rattle.sb_meaning.specs.Terms.{Sort, boolean, integer, text, reglan, Symbol, Term, Terms, constant, word, numeral, apply, parameter, no_terms, with_term}
use Rattle.sb_meaning.specs.Terms as symbol
use Rattle.std.proofs.lemmas.Bool.Decides.{nat_tests}

abbrev pub sort_number : Sort → ℕ
sort_number boolean = 0
sort_number integer = 1
sort_number text = 2
sort_number reglan = 3

abbrev pub symbol_number : Symbol → ℕ
symbol_number symbol.core_true = 0
symbol_number symbol.core_false = 1
symbol_number symbol.core_not = 2
symbol_number symbol.core_and = 3
symbol_number symbol.core_or = 4
symbol_number symbol.core_implies = 5
symbol_number symbol.core_xor = 6
symbol_number symbol.core_ite = 7
symbol_number symbol.core_equal = 8
symbol_number symbol.core_distinct = 9
symbol_number symbol.at_most = 10
symbol_number symbol.less = 11
symbol_number symbol.at_least = 12
symbol_number symbol.greater = 13
symbol_number symbol.plus = 14
symbol_number symbol.times = 15
symbol_number symbol.minus = 16
symbol_number symbol.str_concat = 17
symbol_number symbol.str_len = 18
symbol_number symbol.str_in_re = 19
symbol_number symbol.str_prefixof = 20
symbol_number symbol.str_suffixof = 21
symbol_number symbol.str_contains = 22
symbol_number symbol.str_to_re = 23
symbol_number symbol.re_none = 24
symbol_number symbol.re_all = 25
symbol_number symbol.re_allchar = 26
symbol_number symbol.re_concat = 27
symbol_number symbol.re_union = 28
symbol_number symbol.re_inter = 29
symbol_number symbol.re_diff = 30
symbol_number symbol.re_star = 31
symbol_number symbol.re_plus = 32
symbol_number symbol.re_opt = 33
symbol_number symbol.re_comp = 34
symbol_number symbol.re_range = 35
symbol_number (symbol.re_power n) = 36
symbol_number (symbol.re_loop n m) = 37

abbrev pub first_index : Symbol → ℕ
first_index (symbol.re_power n) = n
first_index (symbol.re_loop n m) = n
first_index _ = 0

abbrev pub second_index : Symbol → ℕ
second_index (symbol.re_loop n m) = m
second_index _ = 0

abbrev pub word_code : List ℕ → List ℕ → List ℕ
word_code [] u = 0 ∷ u
word_code (c ∷ w) u = 1 ∷ c ∷ word_code w u

abbrev mutual
  pub term_code : Term → List ℕ → List ℕ
  term_code (constant serial s) u = 0 ∷ serial ∷ sort_number s ∷ u
  term_code (word w) u = 1 ∷ word_code w u
  term_code (numeral n) u = 2 ∷ n ∷ u
  term_code (apply s ts) u = 3 ∷ symbol_number s ∷ first_index s ∷ second_index s ∷ terms_code ts u
  term_code (parameter place s) u = 4 ∷ place ∷ sort_number s ∷ u

  pub terms_code : Terms → List ℕ → List ℕ
  terms_code no_terms u = 0 ∷ u
  terms_code (with_term t ts) u = 1 ∷ term_code t (terms_code ts u)

two : {x y : ℕ} {xs ys : List ℕ} → x ∷ xs ≡ y ∷ ys → (x ≡ y) × (xs ≡ ys)
two e = (cc, cc)

same_nat : (x y : ℕ) → x ≡ y → nat_eq x y ≡ true
same_nat x y h = grind (arith, nat_tests)

other : (a b : ℕ) → nat_eq a b ≡ false → a ≡ b → ⊥
other a b h e = false≢true (sym h ∙ same_nat a b e)

sort_one : (s t : Sort) → sort_number s ≡ sort_number t → s ≡ t
sort_one boolean boolean h = refl
sort_one integer integer h = refl
sort_one text text h = refl
sort_one reglan reglan h = refl
sort_one s t h = absurd (other _ _ refl h)

symbol_one : (s t : Symbol) → symbol_number s ≡ symbol_number t → first_index s ≡ first_index t
    → second_index s ≡ second_index t → s ≡ t
symbol_one symbol.core_true symbol.core_true h i j = refl
symbol_one symbol.core_false symbol.core_false h i j = refl
symbol_one symbol.core_not symbol.core_not h i j = refl
symbol_one symbol.core_and symbol.core_and h i j = refl
symbol_one symbol.core_or symbol.core_or h i j = refl
symbol_one symbol.core_implies symbol.core_implies h i j = refl
symbol_one symbol.core_xor symbol.core_xor h i j = refl
symbol_one symbol.core_ite symbol.core_ite h i j = refl
symbol_one symbol.core_equal symbol.core_equal h i j = refl
symbol_one symbol.core_distinct symbol.core_distinct h i j = refl
symbol_one symbol.at_most symbol.at_most h i j = refl
symbol_one symbol.less symbol.less h i j = refl
symbol_one symbol.at_least symbol.at_least h i j = refl
symbol_one symbol.greater symbol.greater h i j = refl
symbol_one symbol.plus symbol.plus h i j = refl
symbol_one symbol.times symbol.times h i j = refl
symbol_one symbol.minus symbol.minus h i j = refl
symbol_one symbol.str_concat symbol.str_concat h i j = refl
symbol_one symbol.str_len symbol.str_len h i j = refl
symbol_one symbol.str_in_re symbol.str_in_re h i j = refl
symbol_one symbol.str_prefixof symbol.str_prefixof h i j = refl
symbol_one symbol.str_suffixof symbol.str_suffixof h i j = refl
symbol_one symbol.str_contains symbol.str_contains h i j = refl
symbol_one symbol.str_to_re symbol.str_to_re h i j = refl
symbol_one symbol.re_none symbol.re_none h i j = refl
symbol_one symbol.re_all symbol.re_all h i j = refl
symbol_one symbol.re_allchar symbol.re_allchar h i j = refl
symbol_one symbol.re_concat symbol.re_concat h i j = refl
symbol_one symbol.re_union symbol.re_union h i j = refl
symbol_one symbol.re_inter symbol.re_inter h i j = refl
symbol_one symbol.re_diff symbol.re_diff h i j = refl
symbol_one symbol.re_star symbol.re_star h i j = refl
symbol_one symbol.re_plus symbol.re_plus h i j = refl
symbol_one symbol.re_opt symbol.re_opt h i j = refl
symbol_one symbol.re_comp symbol.re_comp h i j = refl
symbol_one symbol.re_range symbol.re_range h i j = refl
symbol_one (symbol.re_power n) (symbol.re_power m) h i j = ap symbol.re_power i
symbol_one (symbol.re_loop n m) (symbol.re_loop k l) h i j = ap₂ symbol.re_loop i j
symbol_one s t h i j = absurd (other _ _ refl h)

word_one : (v w : List ℕ) (x y : List ℕ) → word_code v x ≡ word_code w y → (v ≡ w) × (x ≡ y)
word_one [] [] x y h = (refl, (two h).1)
word_one (c ∷ v) (d ∷ w) x y h =
    let p = two (two h).1 in
    let q = word_one v w x y p.1 in
    (ap₂ (λ a bs. a ∷ bs) p.0 q.0, q.1)
word_one [] (d ∷ w) x y h = absurd (other _ _ refl (two h).0)
word_one (c ∷ v) [] x y h = absurd (other _ _ refl (two h).0)

mutual
  pub term_one : (s t : Term) (x y : List ℕ) → term_code s x ≡ term_code t y → (s ≡ t) × (x ≡ y)
  term_one (constant n s) (constant m t) x y h =
      let p = two (two h).1 in
      let q = two p.1 in
      (ap₂ constant p.0 (sort_one s t q.0), q.1)
  term_one (word v) (word w) x y h = let p = word_one v w x y (two h).1 in (ap word p.0, p.1)
  term_one (numeral n) (numeral m) x y h = let p = two (two h).1 in (ap numeral p.0, p.1)
  term_one (apply s ts) (apply t us) x y h =
      let p = two (two h).1 in
      let q = two p.1 in
      let r = two q.1 in
      let e = terms_one ts us x y r.1 in
      (ap₂ apply (symbol_one s t p.0 q.0 r.0) e.0, e.1)
  term_one (parameter n s) (parameter m t) x y h =
      let p = two (two h).1 in
      let q = two p.1 in
      (ap₂ parameter p.0 (sort_one s t q.0), q.1)
  term_one s t x y h = absurd (other _ _ refl (two h).0)

  pub terms_one : (ts us : Terms) (x y : List ℕ) → terms_code ts x ≡ terms_code us y → (ts ≡ us) × (x ≡ y)
  terms_one no_terms no_terms x y h = (refl, (two h).1)
  terms_one (with_term t ts) (with_term u us) x y h =
      let p = term_one t u (terms_code ts x) (terms_code us y) (two h).1 in
      let q = terms_one ts us x y p.1 in
      (ap₂ with_term p.0 q.0, q.1)
  terms_one no_terms (with_term u us) x y h = absurd (other _ _ refl (two h).0)
  terms_one (with_term t ts) no_terms x y h = absurd (other _ _ refl (two h).0)

abbrev pub coded_term : Coded Term
coded_term = record {
  code = λ t. (coded_list coded_ℕ).code (term_code t []);
  inj = λ s t same. (term_one s t [] [] ((coded_list coded_ℕ).inj (term_code s []) (term_code t []) same)).0;
}
