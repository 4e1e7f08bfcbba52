-- Terms that demand something of one constant's word: they ask for it, or are the denial of a term that does. Which
-- constant stands in them, what they mean, when they are decided ones, and the regexes that they demand.
use Rattle.sb_decide.proofs.Words.{Bool, Demand, IsAsking, IsNumberOf, IsRegexOf, List, Meaning, Names, None, Option, RegLan, Regex, Some, Sort, Symbol, Term, Terms, Text, Valuation, [], a_membership, a_word_behind, a_word_in_front, all_true, and-true, and_parts, ap, applied, apply, asked, asked_holds, asked_looks, asked_occurs, asked_regular, asked_structure, asserted, complement_of, constant, demanded, expression_in, false, false≢true, fits, has_serials_below, have_serials_below, holds, if◌then◌else◌, in_re, is_about, is_decided, is_demand, is_of_constant, is_plain_term, is_regex, is_regular, is_structure, length, meaning_of, means_number, means_reglan, means_truth, means_word, membership_of, mknot, names_at, nat_lt, negation_of, no_terms, none-some, normal, not, occurs, option_map, or_parts, pattern_in, re_comp, refl, regex_at, speak_of, speaks_of, subst, sym, symbol_in, terms_at, terms_of, text, true, truth_in, value_in, with_term, ℕ, ◌&&◌, ◌==◌, ◌||◌, ◌∙◌, ◌∷◌, ◌≡◌}
use Rattle.sb_meaning.specs.Terms as symbol
use Rattle.sb_term.specs.declared.sort.Symbol.TheVariants as code

-- The shape of such a term.

abbrev complemented : ℕ × Term → ℕ × Term
complemented p = (p.0, complement_of p.1)

-- the denial of a term demands the complement of what that asks for
pub denied_demands : (t u : Term) (o : Option (ℕ × Term)) → t ≡ negation_of u → asked u ≡ o
    → demanded t ≡ option_map complemented o
denied_demands t u o is asks = ap demanded is ∙ ap (option_map complemented) asks

-- a symbol with any number of arguments but one is no denial
other_count : (ts : List Term) (is : List ℕ) → (length is ≡ 1 → ⊥)
    → demanded (apply symbol.core_not (terms_of (terms_at ts is)))
    ≡ asked (apply symbol.core_not (terms_of (terms_at ts is)))
other_count ts [] other = refl
other_count ts (i ∷ []) other = absurd (other refl)
other_count ts (i ∷ j ∷ is) other = refl

pub not_one : (ts : List Term) (s : Symbol) (is : List ℕ) (t : Term)
    → apply (symbol_in s) (terms_of (terms_at ts is)) ≡ t → s ≡ code.Not → (length is ≡ 1 → ⊥)
    → demanded t ≡ asked t
not_one ts s is t e f other = rw (← e, f) (other_count ts is other)

pub data IsDemanding (serial : ℕ) (t R : Term) : Type 0 where
  an_asking : asked t ≡ Some (serial, R) → IsDemanding serial t R
  a_denial : (u S : Term) → t ≡ negation_of u → R ≡ complement_of S → asked u ≡ Some (serial, S)
      → IsDemanding serial t R

pub same_pair : (p q : ℕ × Term) → Some p ≡ Some q → p ≡ q
same_pair p q e = cc

denial_of : (u : Term) (serial : ℕ) (R : Term) (o : Option (ℕ × Term)) → asked u ≡ o
    → option_map complemented o ≡ Some (serial, R) → IsDemanding serial (negation_of u) R
denial_of u serial R None is h = absurd (Prim.cc (h))
denial_of u serial R (Some p) is h =
    let same = same_pair (complemented p) (serial, R) h in
    a_denial u p.1 refl (sym (ap (λ (q : ℕ × Term). q.1) same))
    (is ∙ ap (λ (q : ℕ × Term). Some (q.0, p.1)) same)

pub demanded_looks : (t : Term) (serial : ℕ) (R : Term) → demanded t ≡ Some (serial, R) → IsDemanding serial t R
demanded_looks (apply symbol.core_not (with_term u no_terms)) serial R h =
    denial_of u serial R (asked u) refl h
demanded_looks _ serial R h = an_asking h

-- a decided term demands a regular expression over words
pub record IsDemanded (t : Term) : Type 0 where
  pub serial : ℕ
  pub expression : Term
  pub asks : demanded t ≡ Some (serial, expression)
  pub kind : is_regex expression ≡ true

pub demand_in : (t : Term) → is_demand t ≡ true → IsDemanded t
demand_in t h = step (demanded t) refl h
  where
    step : (o : Option (ℕ × Term)) → demanded t ≡ o
        → elim o as (λ _. Bool) [ Some p ↦ is_regex p.1 | None ↦ false ] ≡ true → IsDemanded t
    step (Some p) is kind = record { serial = p.0; expression = p.1; asks = is; kind = kind }
    step None is kind = absurd (false≢true kind)

pub demanded_kind : (t : Term) (serial : ℕ) (R : Term) → demanded t ≡ Some (serial, R) → is_demand t ≡ is_regex R
demanded_kind t serial R h =
    ap (λ (o : Option (ℕ × Term)). elim o as (λ _. Bool) [ Some p ↦ is_regex p.1 | None ↦ false ]) h

-- The constant stands in it.

-- where a term passes a test that asks for as much of each argument, the constant passes too
demanded_passes : (test : Term → Bool) (tests : Terms → Bool)
    → ((s : symbol.Symbol) (ts : Terms) → test (apply s ts) ≡ tests ts)
    → ((t : Term) (ts : Terms) → tests (with_term t ts) ≡ (test t && tests ts)) → (t : Term) (serial : ℕ) (R : Term)
    → demanded t ≡ Some (serial, R) → test t ≡ true → test (constant serial text) ≡ true
demanded_passes test tests each first t serial R h passed = step (demanded_looks t serial R h)
  where
    parts : (t u : Term) (s : symbol.Symbol) (ts : Terms) → t ≡ apply s (with_term u ts) → test t ≡ true
        → (test u ≡ true) × (tests ts ≡ true)
    parts t u s ts is k = and_parts (test u) (tests ts)
        (sym (ap test is ∙ (each s (with_term u ts) ∙ first u ts)) ∙ k)

    asking : (u S : Term) → IsAsking serial u S → test u ≡ true → test (constant serial text) ≡ true
    asking u S (a_membership is) k = (parts u _ _ _ is k).0
    asking u S (a_word_behind w is _) k = (parts u _ _ _ is k).0
    asking u S (a_word_in_front w is _) k =
        (and_parts (test (constant serial text)) (tests no_terms)
        (sym (first (constant serial text) no_terms) ∙ (parts u _ _ _ is k).1)).0

    step : IsDemanding serial t R → test (constant serial text) ≡ true
    step (an_asking asks) = asking t R (asked_looks t serial R asks) passed
    step (a_denial u S is same asks) = asking u S (asked_looks u serial S asks) (parts t u _ _ is passed).0

pub demanded_speaks : (ns : List (ℕ × Sort)) (t : Term) (serial : ℕ) (R : Term) → demanded t ≡ Some (serial, R)
    → speaks_of ns t ≡ true → speaks_of ns (constant serial text) ≡ true
demanded_speaks ns = demanded_passes (speaks_of ns) (speak_of ns) (λ s ts. refl) (λ t ts. refl)

pub demanded_below : (n : ℕ) (t : Term) (serial : ℕ) (R : Term) → demanded t ≡ Some (serial, R)
    → has_serials_below n t ≡ true → nat_lt serial n ≡ true
demanded_below n = demanded_passes (has_serials_below n) (have_serials_below n) (λ s ts. refl) (λ t ts. refl)

asking_occurs : (n : ℕ) (t : Term) (serial : ℕ) (R : Term) → asked t ≡ Some (serial, R) → occurs n t ≡ false
    → (n == serial) ≡ false
asking_occurs n t serial R h none =
    (or_parts (n == serial) (occurs n R || false) (sym (asked_occurs t serial R h n) ∙ none)).0

pub demanded_occurs : (n : ℕ) (t : Term) (serial : ℕ) (R : Term) → demanded t ≡ Some (serial, R)
    → occurs n t ≡ false → (n == serial) ≡ false
demanded_occurs n t serial R h none = step (demanded_looks t serial R h)
  where
    step : IsDemanding serial t R → (n == serial) ≡ false
    step (an_asking asks) = asking_occurs n t serial R asks none
    step (a_denial u S is same asks) =
        asking_occurs n u serial S asks (or_parts (occurs n u) false (sym (ap (occurs n) is) ∙ none)).0

-- a membership or the negation of one is about this constant
pub demanded_about : (n : ℕ) (t : Term) (serial : ℕ) (R : Term) → demanded t ≡ Some (serial, R)
    → is_plain_term t ≡ true → is_about n t ≡ (n == serial)
demanded_about n t serial R h plain = step (demanded_looks t serial R h)
  where
    positive : IsAsking serial t R → is_about n t ≡ (n == serial)
    positive (a_membership is) = ap (is_about n) is
    positive (a_word_behind w is S) = absurd (false≢true (sym (ap is_plain_term is) ∙ plain))
    positive (a_word_in_front w is S) = absurd (false≢true (sym (ap is_plain_term is) ∙ plain))

    negative : (u S : Term) → t ≡ negation_of u → IsAsking serial u S → is_about n t ≡ (n == serial)
    negative u S e (a_membership is) = ap (is_about n) (e ∙ ap negation_of is)
    negative u S e (a_word_behind w is _) =
        absurd (false≢true (sym (ap is_plain_term (e ∙ ap negation_of is)) ∙ plain))
    negative u S e (a_word_in_front w is _) =
        absurd (false≢true (sym (ap is_plain_term (e ∙ ap negation_of is)) ∙ plain))

    step : IsDemanding serial t R → is_about n t ≡ (n == serial)
    step (an_asking asks) = positive (asked_looks t serial R asks)
    step (a_denial u S is same asks) = negative u S is (asked_looks u serial S asks)

-- The meaning.

-- a regular expression over words means one
record IsMeant (v : Valuation) (R : Term) : Type 0 where
  reglan : RegLan
  means : meaning_of v R ≡ means_reglan reglan

regex_means : (v : Valuation) (R : Term) → is_regex R ≡ true → IsMeant v R
regex_means v (apply symbol.str_to_re terms) h = record { reglan = _; means = refl }
regex_means v (apply symbol.re_none terms) h = record { reglan = _; means = refl }
regex_means v (apply symbol.re_all terms) h = record { reglan = _; means = refl }
regex_means v (apply symbol.re_allchar terms) h = record { reglan = _; means = refl }
regex_means v (apply symbol.re_concat terms) h = record { reglan = _; means = refl }
regex_means v (apply symbol.re_union terms) h = record { reglan = _; means = refl }
regex_means v (apply symbol.re_inter terms) h = record { reglan = _; means = refl }
regex_means v (apply symbol.re_diff terms) h = record { reglan = _; means = refl }
regex_means v (apply symbol.re_star terms) h = record { reglan = _; means = refl }
regex_means v (apply symbol.re_plus terms) h = record { reglan = _; means = refl }
regex_means v (apply symbol.re_opt terms) h = record { reglan = _; means = refl }
regex_means v (apply symbol.re_comp terms) h = record { reglan = _; means = refl }
regex_means v (apply symbol.re_range terms) h = record { reglan = _; means = refl }
regex_means v (apply (symbol.re_power n) terms) h = record { reglan = _; means = refl }
regex_means v (apply (symbol.re_loop n m) terms) h = record { reglan = _; means = refl }
regex_means v _ h = absurd (false≢true h)

membership_holds : (v : Valuation) (serial : ℕ) (R : Term) (reglan : RegLan) (w : List ℕ)
    → meaning_of v R ≡ means_reglan reglan → value_in v serial text ≡ Text w
    → holds (membership_of serial R) v ≡ in_re reglan w
membership_holds v serial R reglan w means value = rw (means, value) (and-true (in_re reglan w))

asking_holds : (v : Valuation) (t : Term) (serial : ℕ) (R : Term) (reglan : RegLan) (w : List ℕ)
    → asked t ≡ Some (serial, R) → meaning_of v R ≡ means_reglan reglan → value_in v serial text ≡ Text w
    → holds t v ≡ in_re reglan w
asking_holds v t serial R reglan w asks means value =
    asked_holds t serial R asks v ∙ membership_holds v serial R reglan w means value

denied_holds : (m : Meaning) → all_true (truth_in (applied symbol.core_not (m ∷ []))) ≡ not (all_true (truth_in m))
denied_holds (means_word w) = refl
denied_holds (means_number n) = refl
denied_holds (means_truth true) = refl
denied_holds (means_truth false) = refl
denied_holds (means_reglan R) = refl

in_complement : (reglan : RegLan) (w : List ℕ) → in_re (re_comp reglan) w ≡ not (in_re reglan w)
unfolding in_re
in_complement reglan w = refl

pub same_reglan : (R S : RegLan) → means_reglan R ≡ means_reglan S → R ≡ S
same_reglan R S e = cc

complement_means : (v : Valuation) (R : Term) (reglan : RegLan) → meaning_of v R ≡ means_reglan reglan
    → meaning_of v (complement_of R) ≡ means_reglan (re_comp reglan)
complement_means v R reglan means = ap (λ m. applied symbol.re_comp (m ∷ [])) means

-- a term is true where the constant's word is in the regular expression that the term demands
pub demanded_holds : (v : Valuation) (t : Term) (serial : ℕ) (R : Term) (reglan : RegLan) (w : List ℕ)
    → demanded t ≡ Some (serial, R) → is_regex R ≡ true → meaning_of v R ≡ means_reglan reglan
    → value_in v serial text ≡ Text w → holds t v ≡ in_re reglan w
demanded_holds v t serial R reglan w h kind means value = step (demanded_looks t serial R h)
  where
    step : IsDemanding serial t R → holds t v ≡ in_re reglan w
    step (an_asking asks) = asking_holds v t serial R reglan w asks means value
    step (a_denial u S is same asks) =
        let meant = regex_means v S (sym (ap is_regex same) ∙ kind) in
        let complement : reglan ≡ re_comp meant.reglan =
        same_reglan reglan (re_comp meant.reglan)
        (sym means ∙ ap (meaning_of v) same ∙ complement_means v S meant.reglan meant.means) in
        ap (λ x. holds x v) is
        ∙ denied_holds (meaning_of v u)
        ∙ ap not (asking_holds v u serial S meant.reglan w asks meant.means value)
        ∙ sym (in_complement meant.reglan w)
        ∙ ap (λ r. in_re r w) (sym complement)

-- The fragment.

demanded_structure : (t : Term) (serial : ℕ) (R : Term) → demanded t ≡ Some (serial, R)
    → is_structure t ≡ is_regex R
demanded_structure t serial R h = step (demanded_looks t serial R h)
  where
    step : IsDemanding serial t R → is_structure t ≡ is_regex R
    step (an_asking asks) = asked_structure t serial R asks
    step (a_denial u S is same asks) =
        ap is_structure is
        ∙ and-true (is_structure u)
        ∙ asked_structure u serial S asks
        ∙ sym (ap is_regex same)

-- what a decided one demands is a regular expression over words
pub decided_kind : (t : Term) (serial : ℕ) (R : Term) → demanded t ≡ Some (serial, R)
    → is_decided (asserted t) ≡ true → is_regex R ≡ true
decided_kind t serial R h decided =
    sym (demanded_structure t serial R h) ∙ (and_parts (is_structure t) (fits t) decided).0

-- Plain terms.

-- a membership of a constant asks for its word
record IsAsked (t : Term) : Type 0 where
  serial : ℕ
  expression : Term
  asks : asked t ≡ Some (serial, expression)

plain_asks : (t : Term) → is_of_constant t ≡ true → IsAsked t
plain_asks (apply symbol.str_in_re (with_term (constant serial text) (with_term R no_terms))) h =
    record { serial = serial; expression = R; asks = refl }
plain_asks _ h = absurd (false≢true h)

plain_demands : (t : Term) → is_plain_term t ≡ true → demanded t ≡ None → ⊥
plain_demands (apply symbol.core_not (with_term u no_terms)) h none =
    let a = plain_asks u h in
    none-some (complemented (a.serial, a.expression)) (sym none ∙ ap (option_map complemented) a.asks)
plain_demands t h none = let a = plain_asks t h in none-some (a.serial, a.expression) (sym none ∙ a.asks)

-- a term that demands nothing of one constant's word alone is not plain
pub nothing_plain : (t : Term) → demanded t ≡ None → is_plain_term t ≡ false
nothing_plain t none = step (is_plain_term t) refl
  where
    step : (b : Bool) → is_plain_term t ≡ b → b ≡ false
    step true e = absurd (plain_demands t e none)
    step false e = refl

-- a denial is within the limits on sizes where what the term asks for is
pub denied_fits : (t u : Term) (serial : ℕ) (R : Term) → t ≡ negation_of u → asked u ≡ Some (serial, R)
    → fits t ≡ is_regular R
denied_fits t u serial R is asks = ap fits is ∙ and-true (fits u) ∙ asked_regular u serial R asks

-- The number of the complement.

normal_complement : (reglan : RegLan) → normal (re_comp reglan) ≡ mknot (normal reglan)
unfolding normal
normal_complement reglan = refl

complement_regex : (old new : List Regex) (R : Term) (id complement : ℕ) → IsRegexOf old R id
    → Names new complement (mknot (regex_at old id)) → IsRegexOf new (complement_of R) complement
complement_regex old new R id complement r names = record {
  kind = r.kind;
  reglan = re_comp r.reglan;
  means = λ v. complement_means v R r.reglan (r.means v);
  names = names
      ∙ ap (λ x. Some (mknot x)) (names_at old id (normal r.reglan) r.names)
      ∙ ap Some (sym (normal_complement r.reglan));
}

-- what the word is to be in is no regular expression over words where the pattern is none
pub no_regex : (rs : List Regex) (ts : List Term) (d : Demand) → is_regex (pattern_in ts d.pattern) ≡ false
    → IsNumberOf rs (expression_in ts d) None
no_regex rs ts d none = by_test d.positive
  where
    by_test : (b : Bool)
        → is_regex (if b then pattern_in ts d.pattern else complement_of (pattern_in ts d.pattern)) ≡ false
    by_test true = none
    by_test false = none

-- the number of what the word is to be in
pub positive_regex : (rs : List Regex) (ts : List Term) (d : Demand) (id : ℕ) → d.positive ≡ true
    → IsRegexOf rs (pattern_in ts d.pattern) id → IsRegexOf rs (expression_in ts d) id
positive_regex rs ts d id on r =
    subst (λ b. IsRegexOf rs (if b then pattern_in ts d.pattern else complement_of (pattern_in ts d.pattern)) id)
    (sym on) r

pub negative_regex : (old new : List Regex) (ts : List Term) (d : Demand) (id complement : ℕ) → d.positive ≡ false
    → IsRegexOf old (pattern_in ts d.pattern) id → Names new complement (mknot (regex_at old id))
    → IsRegexOf new (expression_in ts d) complement
negative_regex old new ts d id complement off r names =
    subst
    (λ b. IsRegexOf new (if b then pattern_in ts d.pattern else complement_of (pattern_in ts d.pattern)) complement)
    (sym off) (complement_regex old new (pattern_in ts d.pattern) id complement r names)
