-- The constants that occur in terms, listed by a walk over these.
use Rattle.sb_decide.proofs.Words.{All, All-contains, Bool, HasNumberBelow, Hears, IfSome, List, None, Option, Puts, Serial, Some, TakesApart, Term, Terms, [], all_weaker, and-true, and_from, and_parts, ap, apply, are_ground, arith, both_ways, cond, constant, eq-eqb, eqb-true, equal_turned, false, false≢true, get_or, get_or_from_slice_get, has, is_ground, is_listed, is_silent, length, list_all, list_all-append, list_all-from_AllPass, list_all-map, list_any, list_any-append, lt-ltb, ltb-true, nat_eq, nat_lt, no_terms, node_term, not, numeral, occurs, occurs_in_some, or-false, or_left, or_right, parameter, parts_of, passes, passes_at, passes_in, refl, slice_get, slice_get-get_or, slice_get_within, sym, take, take_more, term_at, terms_at, terms_of, true, with_term, word, ℕ, ◌&&◌, ◌++◌, ◌+◌, ◌<◌, ◌==◌, ◌||◌, ◌∙◌, ◌∷◌, ◌≡◌}
use Rattle.sb_meaning.specs.Terms.{terms_in}
use Rattle.sb_term.specs.declared.assertion.Assertion as code
use Rattle.sb_term.specs.declared.term.Term as node
use Rattle.sb_term.specs.declared.term.Term.TheVariants as nodes

-- Where a constant occurs.

-- none occurs in a term that is ground
mutual
  ground_occurs : (n : ℕ) (t : Term) → is_ground t ≡ true → occurs n t ≡ false
  ground_occurs n (constant serial sort) h = absurd (false≢true h)
  ground_occurs n (word w) h = refl
  ground_occurs n (numeral m) h = refl
  ground_occurs n (apply s terms) h = grounds_occur n terms h
  ground_occurs n (parameter place sort) h = refl

  grounds_occur : (n : ℕ) (ts : Terms) → are_ground ts ≡ true → occurs_in_some n ts ≡ false
  grounds_occur n no_terms h = refl
  grounds_occur n (with_term t ts) h =
      let parts = and_parts (is_ground t) (are_ground ts) h in
      rw (ground_occurs n t parts.0) (grounds_occur n ts parts.1)

pub ground_silent : (ts : List Term) (n id : ℕ) (b : Bool) → b ≡ is_ground (term_at ts id) → b ≡ true
    → is_silent ts n id ≡ true
ground_silent ts n id b is h = ap not (ground_occurs n (term_at ts id) (sym is ∙ h))

-- one occurs in a term that is no constant only where it occurs in an argument
silent_or : (b d : Bool) → not (b || d) ≡ (not b && not d)
silent_or true d = refl
silent_or false d = refl

among_parts : (n : ℕ) (ts : Terms) → not (occurs_in_some n ts) ≡ list_all (λ t. not (occurs n t)) (terms_in ts)
among_parts n no_terms = refl
among_parts n (with_term t ts) =
    silent_or (occurs n t) (occurs_in_some n ts) ∙ ap (λ b. not (occurs n t) && b) (among_parts n ts)

parts_silent : (ts : List Term) (n : ℕ) (d : node.Term) → ((s : Serial) (sort : _) → d ≡ nodes.Constant s sort → ⊥)
    → list_all (λ t. not (occurs n t)) (parts_of (node_term ts d)) ≡ not (occurs n (node_term ts d))
parts_silent ts n (nodes.Constant s sort) other = absurd (other s sort refl)
parts_silent ts n (nodes.Word codes) other = refl
parts_silent ts n (nodes.Numeral m) other = refl
parts_silent ts n (nodes.Apply s arguments) other = sym (among_parts n (terms_of (terms_at ts arguments.items)))
parts_silent ts n (nodes.Parameter place sort) other = refl

-- Constants that are listed.

-- a test finds it
pub found_listed : (test : Serial → Bool) (n : ℕ) → ((x : Serial) → test x ≡ true → x.0 ≡ n) → (xs : List Serial)
    → list_any test xs ≡ true → is_listed xs n ≡ true
found_listed test n same [] h = absurd (false≢true h)
found_listed test n same (x ∷ xs) h = by (test x) refl h (found_listed test n same xs)
  where
    by : (b : Bool) → test x ≡ b → (b || list_any test xs) ≡ true
        → (list_any test xs ≡ true → is_listed xs n ≡ true) → is_listed (x ∷ xs) n ≡ true
    by true e k later = or_left (x.0 == n) (is_listed xs n) (eq-eqb x.0 n (same x e))
    by false e k later = or_right (x.0 == n) (is_listed xs n) (later k)

-- one was put in, if it was not there
inserted_silent : (test : Serial → Bool) (serials more : List Serial) (s : Serial)
    → ((x : Serial) → test x ≡ true → x.0 ≡ s.0) → more ≡ cond (list_any test serials) serials (serials ++ s ∷ [])
    → (n : ℕ) → not (is_listed more n) ≡ (not (is_listed serials n) && not (n == s.0))
inserted_silent test serials more s same made n = by (list_any test serials) refl
  where
    by : (b : Bool) → list_any test serials ≡ b
        → not (is_listed more n) ≡ (not (is_listed serials n) && not (n == s.0))
    by true e =
        ap (λ xs. not (is_listed xs n)) (made ∙ ap (λ b. cond b serials (serials ++ s ∷ [])) e)
        ∙ there (n == s.0) refl
      where
        there : (b : Bool) → (n == s.0) ≡ b → not (is_listed serials n) ≡ (not (is_listed serials n) && not b)
        there true t =
            let listed : is_listed serials n ≡ true =
            ap (is_listed serials) (eqb-true n s.0 t) ∙ found_listed test s.0 same serials e in
            rw listed refl
        there false t = sym (and-true (not (is_listed serials n)))
    by false e =
        ap (λ xs. not (is_listed xs n)) (made ∙ ap (λ b. cond b serials (serials ++ s ∷ [])) e)
        ∙ (ap not (list_any-append (λ (x : Serial). x.0 == n) serials (s ∷ []))
        ∙ (silent_or (is_listed serials n) ((s.0 == n) || false)
        ∙ ap (λ b. not (is_listed serials n) && not b) (or-false (s.0 == n) ∙ equal_turned s.0 n)))

-- A term is taken apart.

puts_none : (ks : List ℕ) → Puts ks [] ks
puts_none ks = record { kept = λ i h. h; there = refl; only = λ test h p. h }

pub apart_ground : (ts : List Term) (id : ℕ) (left : List ℕ) (serials : List Serial)
    → ((n : ℕ) → is_silent ts n id ≡ true) → TakesApart ts id left left serials serials
apart_ground ts id left serials silent = record {
  parts = [];
  below = λ k d l. absurd (omega (arith, l));
  puts = puts_none left;
  silent = λ n. ap (λ b. not (is_listed serials n) && b) (sym (silent n));
}

pub apart_constant : (test : Serial → Bool) (ts : List Term) (id : ℕ) (left : List ℕ) (serials more : List Serial)
    (s : Serial) (sort : _) → ((x : Serial) → test x ≡ true → x.0 ≡ s.0) → constant s.0 sort ≡ term_at ts id
    → more ≡ cond (list_any test serials) serials (serials ++ s ∷ []) → TakesApart ts id left left serials more
apart_constant test ts id left serials more s sort same is made = record {
  parts = [];
  below = λ k d l. absurd (omega (arith, l));
  puts = puts_none left;
  silent = λ n. and-true (not (is_listed more n))
      ∙ (inserted_silent test serials more s same made n
      ∙ ap (λ t. not (is_listed serials n) && not (occurs n t)) is);
}

pub apart_other : (ts : List Term) (id : ℕ) (d : node.Term) (left more parts : List ℕ) (serials : List Serial)
    → node_term ts d ≡ term_at ts id → ((s : Serial) (sort : _) → d ≡ nodes.Constant s sort → ⊥)
    → terms_at ts parts ≡ parts_of (term_at ts id) → All (λ i. i < id) parts → Puts left parts more
    → TakesApart ts id left more serials serials
apart_other ts id d left more parts serials is other terms below puts = record {
  parts = parts;
  below = below;
  puts = puts;
  silent = λ n. ap (λ b. not (is_listed serials n) && b)
      (sym (list_all-map (λ u. not (occurs n u)) (term_at ts) parts)
      ∙ (ap (list_all (λ u. not (occurs n u))) (terms ∙ ap parts_of (sym is))
      ∙ (parts_silent ts n d other ∙ ap (λ t. not (occurs n t)) is)));
}

-- The walk.

has_passes : (test : ℕ → Bool) (ks : List ℕ) → list_all test ks ≡ true → (i : ℕ) → has ks i ≡ true → test i ≡ true
has_passes test [] h i there = absurd (false≢true there)
has_passes test (k ∷ ks) h i there = by (nat_eq i k) refl there (has_passes test ks both.1 i)
  where
    both : (test k ≡ true) × (list_all test ks ≡ true)
    both = and_parts (test k) (list_all test ks) h

    by : (b : Bool) → nat_eq i k ≡ b → (b || has ks i) ≡ true → (has ks i ≡ true → test i ≡ true) → test i ≡ true
    by true e there later = ap test (eqb-true i k e) ∙ both.0
    by false e there later = later there

has_all : (test : ℕ → Bool) (ks : List ℕ) → ((i : ℕ) → has ks i ≡ true → test i ≡ true) → list_all test ks ≡ true
has_all test [] h = refl
has_all test (k ∷ ks) h =
    and_from (test k) (list_all test ks) (h k (or_left (nat_eq k k) (has ks k) (eq-eqb k k refl)))
    (has_all test ks (λ i there. h i (or_right (nat_eq i k) (has ks i) there)))

-- what holds of all that are left then is what holds of those that were, and of those that are put
puts_all : (old more new : List ℕ) → Puts old more new → (test : ℕ → Bool)
    → list_all test new ≡ (list_all test old && list_all test more)
puts_all old more new p test =
    both_ways (list_all test new) (list_all test old && list_all test more)
    (λ h. and_from (list_all test old) (list_all test more)
    (has_all test old (λ i there. has_passes test new h i (p.kept i there)))
    (all_weaker (has new) test (has_passes test new h) more p.there))
    (λ h. let both = and_parts (list_all test old) (list_all test more) h in p.only test both.0 both.1)

all_small : (n : ℕ) (is : List ℕ) → All (λ i. i < n) is → list_all (λ i. nat_lt i n) is ≡ true
all_small n is h =
    list_all-from_AllPass (λ i. nat_lt i n) is (λ k d l. lt-ltb (get_or is k d) n (h k d l))

-- what is left has numbers of terms; and a constant that is not listed and occurs in none of what is left is one that
-- was not listed and occurs in none of the assertions
pub record Walking (ts : List Term) (assertions : List code.Assertion) (places left : List ℕ)
    (was serials : List Serial) : Type 0
  where
    pub numbers : list_all (λ i. nat_lt i (length ts)) left ≡ true
    pub silent : (n : ℕ) → (not (is_listed serials n) && list_all (is_silent ts n) left)
        ≡ (not (is_listed was n) && list_all (passes_at (is_silent ts n) assertions) places)

pub walking_start : (ts : List Term) (assertions : List code.Assertion) (places terms none left : List ℕ)
    (serials : List Serial) → All (HasNumberBelow (length ts)) assertions
    → ((test : ℕ → Bool) → list_all test terms ≡ list_all (passes_at test assertions) places) → none ≡ []
    → Puts none terms left → Walking ts assertions places left serials serials
walking_start ts assertions places terms none left serials numbers are empty puts = record {
  numbers = puts.only (λ i. nat_lt i (length ts)) (ap (list_all (λ i. nat_lt i (length ts))) empty)
      (are (λ i. nat_lt i (length ts))
      ∙ list_all-from_AllPass (passes_at (λ i. nat_lt i (length ts)) assertions) places
      (λ k d l. number (get_or places k d) (slice_get assertions (get_or places k d)) refl));
  silent = λ n. ap (λ b. not (is_listed serials n) && b) (puts_all none terms left puts (is_silent ts n)
      ∙ (ap (λ ks. list_all (is_silent ts n) ks && list_all (is_silent ts n) terms) empty ∙ are (is_silent ts n)));
}
  where
    small : (o : Option ℕ) → IfSome o (λ id. id < length ts) → passes (λ i. nat_lt i (length ts)) o ≡ true
    small None h = refl
    small (Some id) h = lt-ltb id (length ts) h

    number : (place : ℕ) (o : Option code.Assertion) → slice_get assertions place ≡ o
        → passes_in (λ i. nat_lt i (length ts)) o ≡ true
    number place None e = refl
    number place (Some a) e = small a.term (All-contains (HasNumberBelow (length ts)) assertions a numbers
        (place, (slice_get_within assertions place a e), (get_or_from_slice_get assertions place a a e)))

pub walking_next : (ts : List Term) (assertions : List code.Assertion) (places old left more : List ℕ)
    (was serials listed : List Serial) (id : ℕ) → old ≡ left ++ id ∷ [] → TakesApart ts id left more serials listed
    → Walking ts assertions places old was serials → Walking ts assertions places more was listed
walking_next ts assertions places old left more was serials listed id is p w = record {
  numbers = p.puts.only (λ i. nat_lt i (length ts)) both.0
      (all_small (length ts) p.parts (λ k d l. let low = p.below k d l in omega (arith, low, within)));
  silent = λ n. ap (λ b. not (is_listed listed n) && b) (puts_all left p.parts more p.puts (is_silent ts n))
      ∙ (between (not (is_listed listed n)) (list_all (is_silent ts n) left) (list_all (is_silent ts n) p.parts)
      ∙ (ap (λ b. list_all (is_silent ts n) left && b) (p.silent n ∙ behind n)
      ∙ (between (list_all (is_silent ts n) left) (not (is_listed serials n)) (list_all (is_silent ts n) (id ∷ []))
      ∙ (ap (λ b. not (is_listed serials n) && b) (sym (list_all-append (is_silent ts n) left (id ∷ []))
      ∙ ap (list_all (is_silent ts n)) (sym is)) ∙ w.silent n))));
}
  where
    both : (list_all (λ i. nat_lt i (length ts)) left ≡ true) × (list_all (λ i. nat_lt i (length ts)) (id ∷ []) ≡ true)
    both = and_parts (list_all (λ i. nat_lt i (length ts)) left) (list_all (λ i. nat_lt i (length ts)) (id ∷ []))
        (sym (ap (list_all (λ i. nat_lt i (length ts))) is
        ∙ list_all-append (λ i. nat_lt i (length ts)) left (id ∷ [])) ∙ w.numbers)

    within : id < length ts
    within = ltb-true id (length ts) (and_parts (nat_lt id (length ts)) true both.1).0

    behind : (n : ℕ) → (not (is_listed serials n) && is_silent ts n id)
        ≡ (not (is_listed serials n) && list_all (is_silent ts n) (id ∷ []))
    behind n = ap (λ b. not (is_listed serials n) && b) (sym (and-true (is_silent ts n id)))

    between : (a b c : Bool) → (a && (b && c)) ≡ (b && (a && c))
    between true b c = refl
    between false true c = refl
    between false false c = refl

-- the next one's number
pub walking_within : (ts : List Term) (assertions : List code.Assertion) (places old left : List ℕ)
    (was serials : List Serial) (id : ℕ) → old ≡ left ++ id ∷ [] → Walking ts assertions places old was serials
    → id < length ts
walking_within ts assertions places old left was serials id is w =
    ltb-true id (length ts) (has_passes (λ i. nat_lt i (length ts)) old w.numbers id
    (ap (λ ks. has ks id) is ∙ (list_any-append (nat_eq id) left (id ∷ [])
    ∙ or_right (has left id) (has (id ∷ []) id) (or_left (nat_eq id id) false (eq-eqb id id refl)))))

pub walking_done : (ts : List Term) (assertions : List code.Assertion) (places left : List ℕ)
    (was serials : List Serial) → (0 < length left → ⊥) → Walking ts assertions places left was serials
    → Hears ts assertions places was serials
walking_done ts assertions places [] was serials none w n = sym (and-true (not (is_listed serials n))) ∙ w.silent n
walking_done ts assertions places (k ∷ ks) was serials none w n = absurd (none (omega arith))

-- The terms that it begins with.

-- one more, if there is one
pub terms_next : (test : ℕ → Bool) (assertions : List code.Assertion) (places terms more : List ℕ) (i d : ℕ)
    (a : code.Assertion) → i < length places → get_or places i d < length assertions
    → a ≡ get_or assertions (get_or places i d) a → list_all test more ≡ (list_all test terms && passes test a.term)
    → list_all test terms ≡ list_all (passes_at test assertions) (take i places)
    → list_all test more ≡ list_all (passes_at test assertions) (take (i + 1) places)
terms_next test assertions places terms more i d a l within is made before =
    made
    ∙ (ap (λ b. b && passes test a.term) before
    ∙ (ap (λ b. list_all (passes_at test assertions) (take i places) && b) here
    ∙ (sym (list_all-append (passes_at test assertions) (take i places) (get_or places i d ∷ []))
    ∙ ap (list_all (passes_at test assertions)) (sym (take_more places i d l)))))
  where
    here : passes test a.term ≡ (passes_at test assertions (get_or places i d) && true)
    here = ap (passes_in test) (ap Some is ∙ sym (slice_get-get_or assertions (get_or places i d) a within))
        ∙ sym (and-true (passes_at test assertions (get_or places i d)))
