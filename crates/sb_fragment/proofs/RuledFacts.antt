-- The two rules of the fragment that a term may break by its form, by what is asked at each of the terms that it is
-- made of; and constants that are joined in a String term, as one part after the other is met.
use Rattle.std.proofs.Common.{◌≡◌, ℕ, zero, suc, ◌<◌, ◌≤◌, ◌==◌, Bool, true, false, not, ◌&&◌, nat_eq, nat_lt, List, [], ◌∷◌, ◌++◌, length, drop, get_or, All, Result, IfOk, refl, sym, ap, ap₂, subst, ◌∙◌, arith, append_assoc}
use Rattle.std.specs.Prelude.{◌||◌}
use Rattle.std.specs.List.{list_all, list_any}
use Rattle.std.specs.BTreeSet.{insert_key}
use Rattle.std.specs.Ordering.{nat_cmp, is_eq}
use Rattle.std.proofs.lemmas.Bool.{and_parts, and_from, and_right, false≢true, ltb-true}
use Rattle.std.proofs.lemmas.Bool.Decides.{nat_tests}
use Rattle.std.proofs.lemmas.List.{append-nil, drop_all, map-append}
use Rattle.std.proofs.Math.Bool.{and-true, and-false}
use Rattle.smallvec.specs.SmallVec.{SmallVec}
use Rattle.sb_facts.proofs.CallerLemmas.{all_append, ok_more}
use Rattle.sb_meaning.specs.Terms.{Sort, Symbol, boolean, integer, text, reglan, Term, Terms, constant, word, numeral, apply, parameter, no_terms, with_term, terms_in, terms_of}
use Rattle.sb_meaning.specs.Terms as symbol
use Rattle.sb_meaning.specs.Sorts.{sort_of}
use Rattle.sb_script.specs.Fragment.{sort_of_first}
use Rattle.sb_script.specs.Pieces.{is_ground, are_ground}
use Rattle.sb_script.specs.Rules.{Rule, each_keeps, each_once, keeps, one_ground, constants_joined, constants_joined_in, has_each_once, stand_once}
use Rattle.sb_term.specs.Descending.{has, HaveParts, AreReached, GoesDown}
use Rattle.sb_term.specs.Numbered.{term_at, terms_at}
use Rattle.sb_term.specs.declared.sort.Symbol.{Symbol as CodeSymbol}
use Rattle.sb_term.specs.declared.term.Term as code
use Rattle.sb_term.specs.declared.term.Term.TheVariants as node
use Rattle.sb_term.specs.Nodes.{node_term}
use Rattle.sb_term.specs.Symbols.{symbol_in}
use Rattle.sb_problem.specs.Normals.{is_joined, is_text_constant}
use Rattle.sb_problem.specs.Waiting.{size, sizes}
use Rattle.sb_problem.proofs.CallerLemmas.{fewer_without, inserted_has, is_new, not_new, weight-append, weight_last}
use Rattle.sb_fragment.specs.declared.ruled.Law.{Law}
use Rattle.sb_fragment.specs.declared.ruled.Law.TheVariants as law
use Rattle.sb_fragment.specs.declared.ruled.Place.{Place}
use Rattle.sb_fragment.specs.declared.ruled.Place.TheVariants as place
use Rattle.sb_fragment.specs.Compared.{each_two, facing}
use Rattle.sb_fragment.specs.Fitting.{is_nothing}
use Rattle.sb_fragment.specs.Ruled.{rule_in, place_compared, place_by, place_in, kept_at, kept_here, left_at, ruled_parts, side_keeps, row_keeps, constants_left, Meeting, MeetsMore, Lessens}
use Rattle.sb_fragment.specs.Shapes.{parts_of}
use Rattle.sb_fragment.proofs.Arguments.{below_all}
use Rattle.sb_fragment.proofs.ComparedPairs.{two_more}

-- A rule is kept where what is asked is kept here, and by the arguments that are gone into.

keeps_all : (rule : Rule) (terms : Terms) → each_keeps rule terms ≡ list_all (keeps rule) (terms_in terms)
keeps_all rule no_terms = refl
keeps_all rule (with_term t terms) = ap (λ b. keeps rule t && b) (keeps_all rule terms)

-- a comparison, by the sort of the first
compared_keeps : (rule : Rule) (distinct : Bool) (ts : List Term) (each : Bool) → each ≡ list_all (keeps rule) ts
    → (k : Sort) → (elim k as (λ _. Bool) [
      | boolean ↦ each
      | integer ↦ each
      | text ↦ each_two distinct rule.of_pair ts
      | reglan ↦ each
    ]) ≡ (kept_at rule (place_compared distinct k) ts
    && list_all (keeps rule) (left_at (place_compared distinct k) ts))
compared_keeps rule distinct ts each e boolean = e
compared_keeps rule distinct ts each e integer = e
compared_keeps rule distinct ts each e text = sym (and-true (each_two distinct rule.of_pair ts))
compared_keeps rule distinct ts each e reglan = e

keeps_by : (rule : Rule) (t : Term) → keeps rule t ≡ (kept_here rule t && list_all (keeps rule) (ruled_parts t))
keeps_by rule (constant serial sort) = refl
keeps_by rule (word w) = refl
keeps_by rule (numeral n) = refl
keeps_by rule (parameter n sort) = refl
keeps_by rule (apply symbol.core_equal terms) =
    compared_keeps rule false (terms_in terms) (each_keeps rule terms) (keeps_all rule terms)
    (sort_of_first (terms_in terms))
keeps_by rule (apply symbol.core_distinct terms) =
    compared_keeps rule true (terms_in terms) (each_keeps rule terms) (keeps_all rule terms)
    (sort_of_first (terms_in terms))
keeps_by rule (apply symbol.str_in_re terms) = sym (and-true (rule.of_membership (terms_in terms)))
keeps_by rule (apply symbol.str_prefixof terms) = sym (and-true (each_two false rule.of_pair (terms_in terms)))
keeps_by rule (apply symbol.str_suffixof terms) = sym (and-true (each_two false rule.of_pair (terms_in terms)))
keeps_by rule (apply symbol.str_contains terms) = sym (and-true (each_two false rule.of_pair (terms_in terms)))
keeps_by rule (apply _ terms) = keeps_all rule terms

pub keeps_down : (rule : Rule) → GoesDown ruled_parts (keeps rule)
keeps_down rule t h =
    (and_parts (kept_here rule t) (list_all (keeps rule) (ruled_parts t)) (sym (keeps_by rule t) ∙ h)).1

-- Terms that were reached, from the last one on.

-- all behind a place keep the rule
abbrev pub KeepBehind : Rule → List Term → List ℕ → ℕ → Type 0
KeepBehind rule ts is k = list_all (λ i. keeps rule (term_at ts i)) (drop k is) ≡ true

pub keep_none : (rule : Rule) (ts : List Term) (is : List ℕ) (k : ℕ) → k ≡ length is → KeepBehind rule ts is k
keep_none rule ts is k e = ap (list_all (λ i. keeps rule (term_at ts i))) (drop_all k is (omega (arith, e)))

-- what passes with all of these passes
one_among : (test : ℕ → Bool) (is : List ℕ) (j : ℕ) → list_all test is ≡ true → has is j ≡ true → test j ≡ true
one_among test [] j h k = absurd (false≢true k)
one_among test (i ∷ is) j h k =
    let both = and_parts (test i) (list_all test is) h in step (nat_eq j i) refl k (one_among test is j both.1) both.0
  where
    same : (m n : ℕ) → nat_eq m n ≡ true → m ≡ n
    same m n h = grind (arith, nat_tests, h)

    step : (b : Bool) → nat_eq j i ≡ b → (b || has is j) ≡ true → (has is j ≡ true → test j ≡ true) → test i ≡ true
        → test j ≡ true
    step true e k more first = ap test (same j i e) ∙ first
    step false e k more first = more k

-- numbers that are among those that keep it
keep_among : (rule : Rule) (ts : List Term) (is js : List ℕ) → list_all (λ i. keeps rule (term_at ts i)) is ≡ true
    → list_all (has is) js ≡ true → list_all (keeps rule) (terms_at ts js) ≡ true
keep_among rule ts is [] h k = refl
keep_among rule ts is (j ∷ js) h k =
    let parts = and_parts (has is j) (list_all (has is) js) k in
    and_from (keeps rule (term_at ts j)) (list_all (keeps rule) (terms_at ts js))
    (one_among (λ i. keeps rule (term_at ts i)) is j h parts.0) (keep_among rule ts is js h parts.1)

-- the numbers that stand behind one among those that were reached
behind_at : (ts : List Term) (is : List ℕ) (k : ℕ) → k < length is → HaveParts ruled_parts ts is []
    → (js : List ℕ) → (d : ℕ) → terms_at ts js ≡ ruled_parts (term_at ts (get_or is k d))
    → All (λ j. j < get_or is k d) js → list_all (has (drop (suc k) is)) js ≡ true
behind_at ts [] k l h js d e below = absurd (omega arith)
behind_at ts (i ∷ is) zero l h js d e below = subst (λ ns. list_all (has ns) js ≡ true) (append-nil is) (h.0 js e below)
behind_at ts (i ∷ is) (suc k) l h js d e below = behind_at ts is k (omega (arith, l)) h.1 js d e below

dropped : (is : List ℕ) (k x : ℕ) → k < length is → x ≡ get_or is k x → drop k is ≡ x ∷ drop (suc k) is
dropped [] k x l at = absurd (omega arith)
dropped (i ∷ is) zero x l at = ap (λ j. j ∷ is) (sym at)
dropped (i ∷ is) (suc k) x l at = dropped is k x (omega (arith, l)) at

pub keep_more : (rule : Rule) (ts : List Term) (is js : List ℕ) (k x : ℕ) (kept : Bool)
    → HaveParts ruled_parts ts is [] → k < length is → x ≡ get_or is k x
    → terms_at ts js ≡ ruled_parts (term_at ts x) → All (λ j. j < x) js → kept ≡ kept_here rule (term_at ts x)
    → kept ≡ true → KeepBehind rule ts is (suc k) → KeepBehind rule ts is k
keep_more rule ts is js k x kept have l at parts below here is_kept h =
    ap (list_all (λ i. keeps rule (term_at ts i))) (dropped is k x l at)
    ∙ and_from (keeps rule (term_at ts x)) (list_all (λ i. keeps rule (term_at ts i)) (drop (suc k) is))
    (keeps_by rule (term_at ts x)
    ∙ and_from (kept_here rule (term_at ts x)) (list_all (keeps rule) (ruled_parts (term_at ts x)))
    (sym here ∙ is_kept)
    (ap (list_all (keeps rule)) (sym parts) ∙ keep_among rule ts (drop (suc k) is) js h among))
    h
  where
    among : list_all (has (drop (suc k) is)) js ≡ true
    among =
        behind_at ts is k l have js x (parts ∙ ap (λ n. ruled_parts (term_at ts n)) at)
        (subst (λ n. All (λ j. j < n) js) at below)

pub keep_all : (rule : Rule) (ts : List Term) (root : ℕ) (is : List ℕ) (k : ℕ) → AreReached ruled_parts ts root is
    → k ≡ 0 → KeepBehind rule ts is k → true ≡ keeps rule (term_at ts root)
keep_all rule ts root is k reached none h =
    let all : list_all (λ i. keeps rule (term_at ts i)) is ≡ true =
    ap (λ n. list_all (λ i. keeps rule (term_at ts i)) (drop n is)) (sym none) ∙ h in
    let one = keep_among rule ts is (root ∷ []) all (and_from (has is root) true reached.first refl) in
    sym (and_parts (keeps rule (term_at ts root)) true one).0

-- one that does not keep it here
one_fails : (test : ℕ → Bool) (is : List ℕ) (k x : ℕ) → k < length is → x ≡ get_or is k x → test x ≡ false
    → list_all test is ≡ false
one_fails test [] k x l at h = absurd (omega arith)
one_fails test (i ∷ is) zero x l at h = ap (λ b. b && list_all test is) (ap test (sym at) ∙ h)
one_fails test (i ∷ is) (suc k) x l at h =
    and_right (test i) (list_all test is) (one_fails test is k x (omega (arith, l)) at h)

pub keep_fails : (rule : Rule) (ts : List Term) (root : ℕ) (is : List ℕ) (k x : ℕ) (kept : Bool)
    → AreReached ruled_parts ts root is → k < length is → x ≡ get_or is k x
    → kept ≡ kept_here rule (term_at ts x) → kept ≡ false → false ≡ keeps rule (term_at ts root)
keep_fails rule ts root is k x kept reached l at here not_kept = step (keeps rule (term_at ts root)) refl
  where
    fails : keeps rule (term_at ts x) ≡ false
    fails =
        keeps_by rule (term_at ts x)
        ∙ ap (λ b. b && list_all (keeps rule) (ruled_parts (term_at ts x))) (sym here ∙ not_kept)

    step : (b : Bool) → keeps rule (term_at ts root) ≡ b → false ≡ b
    step false e = refl
    step true e =
        absurd (false≢true (sym (one_fails (λ i. keeps rule (term_at ts i)) is k x l at fails)
        ∙ reached.passes (keeps rule) (keeps_down rule) e))

-- Sides of equalities.

once_row : (b : Bool) (us : List Term)
    → list_all (λ u. b && has_each_once u) us ≡ (is_nothing us || (b && list_all has_each_once us))
once_row b [] = refl
once_row true (u ∷ us) = refl
once_row false (u ∷ us) = refl

one_row : (b : Bool) (us : List Term) → list_all (λ u. b || is_ground u) us ≡ (b || list_all is_ground us)
one_row true [] = refl
one_row true (u ∷ us) = one_row true us
one_row false us = refl

row_by : (w : Law) (t : Term) (us : List Term) → list_all ((rule_in w).of_pair t) us
    ≡ row_keeps w (side_keeps w t) (list_all (side_keeps w) us) (is_nothing us)
row_by law.EachOnce t us = once_row (has_each_once t) us
row_by law.OneGround t us = one_row (is_ground t) us

-- those behind a place: each two of them keep the rule, and what the next one in front has to know of them
pub record AreRuled (w : Law) (distinct : Bool) (us : List Term) (all behind none : Bool) : Type 0 where
  pub keep : all ≡ each_two distinct (rule_in w).of_pair us
  pub sides : behind ≡ list_all (side_keeps w) (facing distinct us)
  pub nothing : none ≡ is_nothing (facing distinct us)

terms_dropped : (ts : List Term) (is : List ℕ) (k x : ℕ) → k < length is → x ≡ get_or is k x
    → terms_at ts (drop k is) ≡ term_at ts x ∷ terms_at ts (drop (suc k) is)
terms_dropped ts is k x l at = ap (terms_at ts) (dropped is k x l at)

pub ruled_none : (w : Law) (distinct : Bool) (ts : List Term) (is : List ℕ) (k : ℕ) → k ≡ length is
    → AreRuled w distinct (terms_at ts (drop k is)) true true true
ruled_none w distinct ts is k e =
    subst (λ us. AreRuled w distinct us true true true)
    (sym (ap (terms_at ts) (drop_all k is (omega (arith, e))))) (step distinct)
  where
    step : (d : Bool) → AreRuled w d [] true true true
    step true = record { keep = refl; sides = refl; nothing = refl }
    step false = record { keep = refl; sides = refl; nothing = refl }

facing_sides : (w : Law) (distinct : Bool) (t : Term) (us : List Term)
    → (side_keeps w t && (not distinct || list_all (side_keeps w) (facing distinct us)))
    ≡ list_all (side_keeps w) (facing distinct (t ∷ us))
facing_sides w true t us = refl
facing_sides w false t us = refl

facing_some : (distinct : Bool) (t : Term) (us : List Term) → false ≡ is_nothing (facing distinct (t ∷ us))
facing_some true t us = refl
facing_some false t us = refl

pub ruled_step : (w : Law) (distinct : Bool) (ts : List Term) (is : List ℕ) (k x : ℕ)
    (all row now one behind next none : Bool) → k < length is → x ≡ get_or is k x → one ≡ side_keeps w (term_at ts x)
    → row ≡ row_keeps w one behind none → now ≡ (row && all) → next ≡ (one && (not distinct || behind))
    → AreRuled w distinct (terms_at ts (drop (suc k) is)) all behind none
    → AreRuled w distinct (terms_at ts (drop k is)) now next false
ruled_step w distinct ts is k x all row now one behind next none l there o r n b h =
    let t = term_at ts x in
    let us = terms_at ts (drop (suc k) is) in
    rw (terms_dropped ts is k x l there) (record {
      keep = n
          ∙ (ap₂ ◌&&◌
          (r
          ∙ (ap₂ (λ a c. row_keeps w a c none) o h.sides
          ∙ (ap (row_keeps w (side_keeps w t) (list_all (side_keeps w) (facing distinct us))) h.nothing
          ∙ sym (row_by w t (facing distinct us))))) h.keep
          ∙ sym (two_more distinct (rule_in w).of_pair t us));
      sides = b ∙ (ap₂ (λ a c. a && (not distinct || c)) o h.sides ∙ facing_sides w distinct t us);
      nothing = facing_some distinct t us;
    })

pub ruled_end : (w : Law) (distinct : Bool) (ts : List Term) (is : List ℕ) (k : ℕ) (all behind none : Bool) → k ≡ 0
    → AreRuled w distinct (terms_at ts (drop k is)) all behind none
    → all ≡ each_two distinct (rule_in w).of_pair (terms_at ts is)
ruled_end w distinct ts is k all behind none e h =
    h.keep ∙ ap (λ n. each_two distinct (rule_in w).of_pair (terms_at ts (drop n is))) e

-- Memberships.

pub once_of_none : (ts : List Term) (is : List ℕ) → length is < 1
    → true ≡ each_once.of_membership (terms_at ts is)
once_of_none ts [] l = refl
once_of_none ts (i ∷ is) l = absurd (omega (arith, l))

pub once_of_first : (ts : List Term) (is : List ℕ) (x : ℕ) (kept : Bool) → 1 ≤ length is → x ≡ get_or is 0 x
    → kept ≡ has_each_once (term_at ts x) → kept ≡ each_once.of_membership (terms_at ts is)
once_of_first ts [] x kept l at h = absurd (omega (arith, l))
once_of_first ts (i ∷ is) x kept l at h = h ∙ ap (λ j. has_each_once (term_at ts j)) at

pub over_of_others : (ts : List Term) (is : List ℕ) → (length is ≡ 2 → ⊥)
    → true ≡ one_ground.of_membership (terms_at ts is)
over_of_others ts [] other = refl
over_of_others ts (i ∷ []) other = refl
over_of_others ts (i ∷ j ∷ []) other = absurd (other refl)
over_of_others ts (i ∷ j ∷ k ∷ is) other = refl

pub over_of_two : (ts : List Term) (is : List ℕ) (x : ℕ) (kept : Bool) → 2 ≤ length is → length is < 3
    → x ≡ get_or is 1 x → kept ≡ is_ground (term_at ts x) → kept ≡ one_ground.of_membership (terms_at ts is)
over_of_two ts [] x kept low high at h = absurd (omega (arith, low))
over_of_two ts (i ∷ []) x kept low high at h = absurd (omega (arith, low))
over_of_two ts (i ∷ j ∷ []) x kept low high at h = h ∙ ap (λ n. is_ground (term_at ts n)) at
over_of_two ts (i ∷ j ∷ k ∷ is) x kept low high at h = absurd (omega (arith, high))

-- Places.

pub place_none : (ts : List Term) (is : List ℕ) (distinct : Bool) → length is < 1
    → place.Nowhere ≡ place_compared distinct (sort_of_first (terms_at ts is))
place_none ts [] distinct l = refl
place_none ts (i ∷ is) distinct l = absurd (omega (arith, l))

pub place_first : (ts : List Term) (is : List ℕ) (x : ℕ) (distinct : Bool) (k : Sort) (p : Place) → 1 ≤ length is
    → x ≡ get_or is 0 x → k ≡ sort_of (term_at ts x) → p ≡ place_compared distinct k
    → p ≡ place_compared distinct (sort_of_first (terms_at ts is))
place_first ts [] x distinct k p l at sort e = absurd (omega (arith, l))
place_first ts (i ∷ is) x distinct k p l at sort e =
    e ∙ ap (place_compared distinct) (sort ∙ ap (λ j. sort_of (term_at ts j)) at)

pub place_applied : (s : Symbol) (ts : List Term) → place_by s ts ≡ place_in (apply s (terms_of ts))
place_applied s ts = ap (place_by s) (sym (in_of ts))
  where
    in_of : (us : List Term) → terms_in (terms_of us) ≡ us
    in_of [] = refl
    in_of (u ∷ us) = ap (λ vs. u ∷ vs) (in_of us)

pub parts_left : (t : Term) (p : Place) (us : List Term) → p ≡ place_in t → us ≡ left_at p (parts_of t)
    → us ≡ ruled_parts t
parts_left t p us e h = h ∙ ap (λ q. left_at q (parts_of t)) e

pub kept_by : (rule : Rule) (t : Term) (p : Place) (us : List Term) (kept : Bool) → p ≡ place_in t → us ≡ parts_of t
    → kept ≡ kept_at rule p us → kept ≡ kept_here rule t
kept_by rule t p us kept e same h = h ∙ ap₂ (kept_at rule) e same

-- Constants that are joined.

constants-append : (xs ys : List Term) → constants_left (xs ++ ys) ≡ constants_left xs ++ constants_left ys
constants-append [] ys = refl
constants-append (x ∷ xs) ys =
    ap (λ ns. constants_joined x ++ ns) (constants-append xs ys)
    ∙ sym (append_assoc (constants_joined x) (constants_left xs) (constants_left ys))

constants_last : (ts : List Term) (t : Term) → constants_left (ts ++ t ∷ []) ≡ constants_left ts ++ constants_joined t
constants_last ts t =
    constants-append ts (t ∷ []) ∙ ap (λ ns. constants_left ts ++ ns) (append-nil (constants_joined t))

constants_all : (terms : Terms) → constants_joined_in terms ≡ constants_left (terms_in terms)
constants_all no_terms = refl
constants_all (with_term t terms) = ap (λ ns. constants_joined t ++ ns) (constants_all terms)

mutual
  no_constants : (t : Term) → is_ground t ≡ true → constants_joined t ≡ []
  no_constants (constant serial sort) h = absurd (false≢true h)
  no_constants (apply symbol.str_concat terms) h = none_joined terms h
  no_constants _ h = refl

  none_joined : (terms : Terms) → are_ground terms ≡ true → constants_joined_in terms ≡ []
  none_joined no_terms h = refl
  none_joined (with_term t terms) h =
      let parts = and_parts (is_ground t) (are_ground terms) h in
      ap₂ (λ ms ns. ms ++ ns) (no_constants t parts.0) (none_joined terms parts.1)

pub other_constants : (t : Term) → is_text_constant t ≡ false → is_joined t ≡ false → constants_joined t ≡ []
other_constants (constant serial text) h k = absurd (false≢true (sym h))
other_constants (apply symbol.str_concat terms) h k = absurd (false≢true (sym k))
other_constants _ h k = refl

joined_constants : (t : Term) → is_joined t ≡ true → constants_joined t ≡ constants_left (parts_of t)
joined_constants (apply symbol.str_concat terms) h = constants_all terms
joined_constants _ h = absurd (false≢true h)

pub ground_constants : (t : Term) (known : Bool) → known ≡ is_ground t → known ≡ true → constants_joined t ≡ []
ground_constants t known e h = no_constants t (sym e ∙ h)

behind_twice : (xs ys : List ℕ) → stand_once ys ≡ false → stand_once (xs ++ ys) ≡ false
behind_twice [] ys h = h
behind_twice (x ∷ xs) ys h =
    ap (λ b. not (has (xs ++ ys) x) && b) (behind_twice xs ys h) ∙ and-false (not (has (xs ++ ys) x))

pub meeting_start : (t : Term) (met : List ℕ) (left : List Term) → met ≡ [] → left ≡ t ∷ [] → Meeting t met left
meeting_start t met left none one = rw (none, one) (record {
  done = [];
  are = sym (append-nil (constants_joined t ++ []) ∙ append-nil (constants_joined t));
  once = refl;
  were_met = λ n. refl;
})

-- a part without constants
pub meets_nothing : (whole t : Term) (met : List ℕ) (left : List Term) → constants_joined t ≡ []
    → Meeting whole met (left ++ t ∷ []) → Meeting whole met left
meets_nothing whole t met left none h = record {
  done = h.done;
  are = h.are
      ∙ ap (λ ns. ns ++ h.done)
      (constants_last left t ∙ (ap (λ ns. constants_left left ++ ns) none ∙ append-nil (constants_left left)));
  once = h.once;
  were_met = h.were_met;
}

-- a constant: with those behind it
with_constant : (whole : Term) (serial : ℕ) (met : List ℕ) (left : List Term)
    → (h : Meeting whole met (left ++ constant serial text ∷ []))
    → constants_joined whole ≡ constants_left left ++ (serial ∷ h.done)
with_constant whole serial met left h =
    h.are
    ∙ (ap (λ ns. ns ++ h.done) (constants_last left (constant serial text))
    ∙ append_assoc (constants_left left) (serial ∷ []) h.done)

pub meets_again : (whole : Term) (serial : ℕ) (met : List ℕ) (left : List Term)
    → Meeting whole met (left ++ constant serial text ∷ []) → has met serial ≡ true → has_each_once whole ≡ false
meets_again whole serial met left h there =
    ap stand_once (with_constant whole serial met left h)
    ∙ behind_twice (constants_left left) (serial ∷ h.done)
    (ap (λ b. not b && stand_once h.done) (sym (h.were_met serial) ∙ there))

pub meets_constant : (whole : Term) (serial : ℕ) (met met' : List ℕ) (left : List Term)
    → Meeting whole met (left ++ constant serial text ∷ []) → has met serial ≡ false
    → met' ≡ insert_key nat_cmp met serial → Meeting whole met' left
meets_constant whole serial met met' left h fresh inserted = rw inserted (record {
  done = serial ∷ h.done;
  are = with_constant whole serial met left h;
  once = and_from (not (has h.done serial)) (stand_once h.done)
      (ap not (sym (h.were_met serial) ∙ fresh)) h.once;
  were_met = λ n. inserted_has met serial n ∙ ap (λ b. (n == serial) || b) (h.were_met n);
})

-- the parts of a concatenation
pub meets_parts : (ts : List Term) (whole : Term) (i : ℕ) (is met before after : List ℕ)
    → is_joined (term_at ts i) ≡ true → terms_at ts is ≡ parts_of (term_at ts i) → after ≡ before ++ is
    → Meeting whole met (terms_at ts before ++ term_at ts i ∷ []) → Meeting whole met (terms_at ts after)
meets_parts ts whole i is met before after joined same put h = record {
  done = h.done;
  are = h.are
      ∙ ap (λ ns. ns ++ h.done)
      (constants_last (terms_at ts before) (term_at ts i)
      ∙ (ap (λ ns. constants_left (terms_at ts before) ++ ns)
      (joined_constants (term_at ts i) joined ∙ ap constants_left (sym same))
      ∙ (sym (constants-append (terms_at ts before) (terms_at ts is))
      ∙ ap constants_left (sym (ap (terms_at ts) put ∙ map-append (term_at ts) before is)))));
  once = h.once;
  were_met = h.were_met;
}

pub meeting_end : (whole : Term) (met : List ℕ) (left : List Term) → length left ≡ 0 → Meeting whole met left
    → true ≡ has_each_once whole
meeting_end whole met [] none h = sym (ap stand_once h.are ∙ h.once)
meeting_end whole met (t ∷ left) none h = absurd (omega (arith, none))

-- What is left lessens.

pub lessens_without : (ts : List Term) (i : ℕ) (before : List ℕ) → Lessens ts i before before
lessens_without ts i before =
    record { below = λ n l h. h; lighter = (fewer_without ts i before before refl).lighter }

parts_less : (t : Term) → sizes (terms_of (parts_of t)) < size t
parts_less (apply s terms) = omega (arith, ap sizes (of_in terms))
  where
    of_in : (us : Terms) → terms_of (terms_in us) ≡ us
    of_in no_terms = refl
    of_in (with_term u us) = ap (λ vs. with_term u vs) (of_in us)
parts_less (constant serial sort) = omega arith
parts_less (word w) = omega arith
parts_less (numeral n) = omega arith
parts_less (parameter n sort) = omega arith

pub lessens_parts : (ts : List Term) (i : ℕ) (is before after : List ℕ)
    → terms_at ts is ≡ parts_of (term_at ts i) → All (λ j. j < i) is → after ≡ before ++ is
    → Lessens ts i before after
lessens_parts ts i is before after same low put =
    let all = ap (λ js. sizes (terms_of (terms_at ts js))) put
    ∙ (ap (λ us. sizes (terms_of us)) (map-append (term_at ts) before is)
    ∙ weight-append (terms_at ts before) (terms_at ts is)) in
    let few = ap (λ us. sizes (terms_of us)) same in
    record {
      below = λ n m h. ap (list_all (λ j. nat_lt j n)) put
          ∙ all_append (λ j. nat_lt j n) before is h (below_all n i is (omega (arith, m)) low);
      lighter = omega (arith, all, few, parts_less (term_at ts i), weight_last ts before i);
    }

-- a constant, by whether it is new in the set
pub met_by : (whole : Term) (serial : ℕ) (met met' : List ℕ) (left : List Term) (added : Bool)
    → added ≡ not (list_any (λ k. is_eq (nat_cmp serial k)) met) → met' ≡ insert_key nat_cmp met serial
    → Meeting whole met (left ++ constant serial text ∷ []) → MeetsMore added whole met' left
met_by whole serial met met' left true e inserted h =
    meets_constant whole serial met met' left h (is_new met serial true e refl) inserted
met_by whole serial met met' left false e inserted h =
    meets_again whole serial met left h (not_new met serial false e refl)

-- Results.

pub kept_found : {E : Type 0} (rule : Rule) (t : Term) (p : Place) (us : List Term) (found : Result Bool E)
    → p ≡ place_in t → us ≡ parts_of t → IfOk found (λ kept. kept ≡ kept_at rule p us)
    → IfOk found (λ kept. kept ≡ kept_here rule t)
kept_found rule t p us found e same h =
    ok_more (λ kept. kept ≡ kept_at rule p us) (λ kept. kept ≡ kept_here rule t) found
    (λ kept k. kept_by rule t p us kept e same k) h

-- the place of a symbol with its arguments
pub placed_at : (ts : List Term) (d : code.Term) (s : CodeSymbol) (arguments : SmallVec ℕ) (id : ℕ) (is : List ℕ)
    (p : Place) → node_term ts d ≡ term_at ts id → d ≡ node.Apply s arguments → is ≡ arguments.items
    → p ≡ place_by (symbol_in s) (terms_at ts is) → p ≡ place_in (term_at ts id)
placed_at ts d s arguments id is p value applied same e =
    e
    ∙ (ap (λ js. place_by (symbol_in s) (terms_at ts js)) same
    ∙ (place_applied (symbol_in s) (terms_at ts arguments.items)
    ∙ ap place_in (sym (ap (node_term ts) applied) ∙ value)))

-- one of numbers that are below another
pub one_within : (n : ℕ) (is : List ℕ) (k x : ℕ) → k < length is → x ≡ get_or is k x
    → list_all (λ i. nat_lt i n) is ≡ true → x < n
one_within n [] k x l at h = absurd (omega arith)
one_within n (i ∷ is) zero x l at h =
    let first = ltb-true i n (and_parts (nat_lt i n) (list_all (λ j. nat_lt j n) is) h).0 in
    omega (arith, first, at)
one_within n (i ∷ is) (suc k) x l at h =
    one_within n is k x (omega (arith, l)) at (and_parts (nat_lt i n) (list_all (λ j. nat_lt j n) is) h).1
