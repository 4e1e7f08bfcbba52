-- Lists of regexes: tests through a filter and a sort, and the place of the one set.
use Rattle.std.proofs.Common.{◌≡◌, ◌+◌, ◌≤◌, Bool, true, false, not, ◌&&◌, ◌||◌, cond, ◌⊎◌, List, [], ◌∷◌, length, refl, sym, ap, ap₂, ◌∙◌, arith, inl, inr, length-append}
use Rattle.std.specs.List.{list_any, list_all, filter, flat_map}
use Rattle.std.specs.declared.cmp.Ordering.{Ordering}
use Rattle.std.specs.declared.cmp.Ordering.TheVariants.{Less, Equal, Greater}
use Rattle.std.specs.Ordering.{is_lt, ordering_reverse, match_ordering}
use Rattle.std.proofs.Math.Bool.{and_self_left}
use Rattle.std.proofs.lemmas.Bool.{and_parts, or_parts, false≢true}
use Rattle.std.proofs.lemmas.List.Folds.{list_all-append}
use Rattle.sb_class.specs.Ranges.{Range}
use Rattle.sb_lang.specs.Regex.{Regex, set}
use Rattle.sb_lang.specs.Order.{regex_cmp}
use Rattle.sb_lang.specs.Constructors.{ranges_of, is_set, with_regex, sorted}
use Rattle.sb_lang.proofs.OrderFacts.{cmp_decides, regex_cmp_total}
use Rattle.sb_lang.proofs.BoolFacts.{and_swap}

-- Tests on lists.

pub list_all-filter : (p t : Regex → Bool) (rs : List Regex) → list_all p rs ≡ true → list_all p (filter t rs) ≡ true
list_all-filter p t [] h = refl
list_all-filter p t (r ∷ rs) h = let q = and_parts (p r) _ h in step q.0 (list_all-filter p t rs q.1) (t r)
  where
    step : p r ≡ true → list_all p (filter t rs) ≡ true → (b : Bool)
        → list_all p (cond b (r ∷ filter t rs) (filter t rs)) ≡ true
    step here rest true = ap₂ ◌&&◌ here rest
    step here rest false = rest

pub filter-passes : (t : Regex → Bool) (rs : List Regex) → list_all t (filter t rs) ≡ true
filter-passes t [] = refl
filter-passes t (r ∷ rs) = step (filter-passes t rs) (t r) refl
  where
    step : list_all t (filter t rs) ≡ true → (b : Bool) → t r ≡ b
        → list_all t (cond b (r ∷ filter t rs) (filter t rs)) ≡ true
    step rest true is = ap₂ ◌&&◌ is rest
    step rest false is = rest

pub filter-whole : (t : Regex → Bool) (rs : List Regex) → list_all t rs ≡ true → filter t rs ≡ rs
filter-whole t [] h = refl
filter-whole t (r ∷ rs) h =
    let p = and_parts (t r) _ h in
    ap (λ b. cond b (r ∷ filter t rs) (filter t rs)) p.0 ∙ ap (λ xs. r ∷ xs) (filter-whole t rs p.1)

pub list_all-from : (p q : Regex → Bool) (rs : List Regex) → ((r : Regex) → p r ≡ true → q r ≡ true)
    → list_all p rs ≡ true → list_all q rs ≡ true
list_all-from p q [] gives h = refl
list_all-from p q (r ∷ rs) gives h =
    let parts = and_parts (p r) _ h in
    ap₂ ◌&&◌ (gives r parts.0) (list_all-from p q rs gives parts.1)

pub list_all-both : (p q s : Regex → Bool) (rs : List Regex) → ((r : Regex) → p r ≡ true → q r ≡ true → s r ≡ true)
    → list_all p rs ≡ true → list_all q rs ≡ true → list_all s rs ≡ true
list_all-both p q s [] gives h g = refl
list_all-both p q s (r ∷ rs) gives h g =
    let one = and_parts (p r) _ h in
    let two = and_parts (q r) _ g in
    ap₂ ◌&&◌ (gives r one.0 two.0) (list_all-both p q s rs gives one.1 two.1)

pub list_all-flat : (p q : Regex → Bool) (f : Regex → List Regex) (rs : List Regex)
    → ((r : Regex) → q r ≡ true → list_all p (f r) ≡ true) → list_all q rs ≡ true → list_all p (flat_map f rs) ≡ true
list_all-flat p q f [] gives h = refl
list_all-flat p q f (r ∷ rs) gives h =
    let parts = and_parts (q r) _ h in
    list_all-append p (f r) (flat_map f rs) ∙ ap₂ ◌&&◌ (gives r parts.0) (list_all-flat p q f rs gives parts.1)

pub list_all-none : (t : Regex → Bool) (rs : List Regex) → list_any t rs ≡ false → list_all (λ r. not (t r)) rs ≡ true
list_all-none t [] h = refl
list_all-none t (r ∷ rs) h =
    let p = or_parts (t r) _ h in
    ap₂ ◌&&◌ (ap not p.0) (list_all-none t rs p.1)

pub list_any-none : (t : Regex → Bool) (rs : List Regex) → list_all (λ r. not (t r)) rs ≡ true → list_any t rs ≡ false
list_any-none t [] h = refl
list_any-none t (r ∷ rs) h =
    let p = and_parts (not (t r)) _ h in
    ap₂ ◌||◌ (fails (t r) p.0) (list_any-none t rs p.1)
  where
    fails : (b : Bool) → not b ≡ true → b ≡ false
    fails true e = absurd (false≢true e)
    fails false e = refl

pub list_all-with_regex : (p : Regex → Bool) (r : Regex) (ss : List Regex)
    → list_all p (with_regex r ss) ≡ (p r && list_all p ss)
unfolding with_regex
list_all-with_regex p r [] = refl
list_all-with_regex p r (s ∷ ss) = step (list_all-with_regex p r ss) (regex_cmp r s) refl
  where
    step : list_all p (with_regex r ss) ≡ (p r && list_all p ss) → (o : Ordering) → regex_cmp r s ≡ o →
        list_all p (match_ordering o (r ∷ s ∷ ss) (s ∷ ss) (s ∷ with_regex r ss))
        ≡ (p r && (p s && list_all p ss))
    step rest Less is = refl
    step rest Equal is = sym (and_self_left (p s) (list_all p ss))
        ∙ ap (λ x. p x && (p s && list_all p ss)) (sym ((cmp_decides r s).0 is))
    step rest Greater is = ap (λ x. p s && x) rest ∙ and_swap (p s) (p r) (list_all p ss)

pub list_all-sorted : (p : Regex → Bool) (rs : List Regex) → list_all p (sorted rs) ≡ list_all p rs
unfolding sorted
list_all-sorted p [] = refl
list_all-sorted p (r ∷ rs) = list_all-with_regex p r (sorted rs) ∙ ap (λ x. p r && x) (list_all-sorted p rs)

-- Ascending lists.

-- the regex stands before each of these
abbrev pub before_all : Regex → List Regex → Bool
before_all r rs = list_all (λ s. is_lt (regex_cmp r s)) rs

unfoldable pub ascending : List Regex → Bool
ascending [] = true
ascending (r ∷ rs) = before_all r rs && ascending rs

pub less_from : (o : Ordering) → is_lt o ≡ true → o ≡ Less
less_from Less h = refl
less_from Equal h = absurd (false≢true h)
less_from Greater h = absurd (false≢true h)

before_all-further : (r s : Regex) (rs : List Regex) → regex_cmp r s ≡ Less → before_all s rs ≡ true
    → before_all r rs ≡ true
before_all-further r s rs less h =
    list_all-from (λ x. is_lt (regex_cmp s x)) (λ x. is_lt (regex_cmp r x)) rs
    (λ x after. ap is_lt (regex_cmp_total.trans r s x less (less_from (regex_cmp s x) after))) h

ascending-with_regex : (r : Regex) (ss : List Regex) → ascending ss ≡ true → ascending (with_regex r ss) ≡ true
unfolding with_regex ascending
ascending-with_regex r [] h = refl
ascending-with_regex r (s ∷ ss) h =
    let p = and_parts (before_all s ss) _ h in
    step p.0 p.1 (ascending-with_regex r ss p.1) (regex_cmp r s) refl
  where
    step : before_all s ss ≡ true → ascending ss ≡ true → ascending (with_regex r ss) ≡ true → (o : Ordering)
        → regex_cmp r s ≡ o →
        ascending (match_ordering o (r ∷ s ∷ ss) (s ∷ ss) (s ∷ with_regex r ss)) ≡ true
    step first tail rest Less is =
        ap₂ ◌&&◌ (ap₂ ◌&&◌ (ap is_lt is) (before_all-further r s ss is first)) (ap₂ ◌&&◌ first tail)
    step first tail rest Equal is = ap₂ ◌&&◌ first tail
    step first tail rest Greater is =
        let less : is_lt (regex_cmp s r) ≡ true = ap is_lt (regex_cmp_total.antisymm s r ∙ ap ordering_reverse is) in
        ap₂ ◌&&◌ (list_all-with_regex (λ x. is_lt (regex_cmp s x)) r ss ∙ ap₂ ◌&&◌ less first) rest

pub ascending-sorted : (rs : List Regex) → ascending (sorted rs) ≡ true
unfolding sorted ascending
ascending-sorted [] = refl
ascending-sorted (r ∷ rs) = ascending-with_regex r (sorted rs) (ascending-sorted rs)

pub ascending-filter : (t : Regex → Bool) (rs : List Regex) → ascending rs ≡ true → ascending (filter t rs) ≡ true
unfolding ascending
ascending-filter t [] h = refl
ascending-filter t (r ∷ rs) h = let p = and_parts (before_all r rs) _ h in step p.0 (ascending-filter t rs p.1) (t r)
  where
    step : before_all r rs ≡ true → ascending (filter t rs) ≡ true → (b : Bool)
        → ascending (cond b (r ∷ filter t rs) (filter t rs)) ≡ true
    step first rest true = ap₂ ◌&&◌ (list_all-filter (λ s. is_lt (regex_cmp r s)) t rs first) rest
    step first rest false = rest

with_regex-first : (r : Regex) (rs : List Regex) → before_all r rs ≡ true → with_regex r rs ≡ r ∷ rs
unfolding with_regex
with_regex-first r [] h = refl
with_regex-first r (s ∷ ss) h =
    let p = and_parts (is_lt (regex_cmp r s)) _ h in
    ap (λ o. match_ordering o (r ∷ s ∷ ss) (s ∷ ss) (s ∷ with_regex r ss))
    (less_from (regex_cmp r s) p.0)

pub sorted-ascending : (rs : List Regex) → ascending rs ≡ true → sorted rs ≡ rs
unfolding sorted ascending
sorted-ascending [] h = refl
sorted-ascending (r ∷ rs) h =
    let p = and_parts (before_all r rs) _ h in
    ap (with_regex r) (sorted-ascending rs p.1) ∙ with_regex-first r rs p.0

-- Sets among the members.

abbrev pub sets_in : List Regex → List (List Range)
sets_in rs = flat_map ranges_of rs

abbrev pub without_sets : List Regex → List Regex
without_sets rs = filter (λ r. not (is_set r)) rs

pub without_sets-whole : (rs : List Regex) → sets_in rs ≡ [] → without_sets rs ≡ rs
unfolding ranges_of is_set
without_sets-whole [] h = refl
without_sets-whole (set s ∷ rs) h = absurd (not_nil s (flat_map ranges_of rs) h)
  where
    not_nil : (s : List Range) (ss : List (List Range)) → s ∷ ss ≡ [] → ⊥
    not_nil s ss e = cc
without_sets-whole (r ∷ rs) h = ap (λ xs. r ∷ xs) (without_sets-whole rs h)

pub sets_in-without : (rs : List Regex) → sets_in (without_sets rs) ≡ []
unfolding ranges_of is_set
sets_in-without [] = refl
sets_in-without (set s ∷ rs) = sets_in-without rs
sets_in-without (r ∷ rs) = sets_in-without rs

-- a test of all holds of the set among them
pub has_set : (s : List Range) (rs : List Regex) (p : Regex → Bool) → list_all p rs ≡ true → sets_in rs ≡ s ∷ []
    → p (set s) ≡ true
unfolding ranges_of
has_set s [] p h e = absurd (nil_not s e)
  where
    nil_not : (s : List Range) → [] ≡ s ∷ [] → ⊥
    nil_not s e = cc
has_set s (set t ∷ rs) p h e = ap (λ x. p (set x)) (sym (head t s (flat_map ranges_of rs) e))
    ∙ (and_parts (p (set t)) _ h).0
  where
    head : (t s : List Range) (ss : List (List Range)) → t ∷ ss ≡ s ∷ [] → t ≡ s
    head t s ss e = cc
has_set s (r ∷ rs) p h e = has_set s rs p (and_parts (p r) _ h).1 e

further : (r : Regex) (s : List Range) (rs : List Regex) → is_lt (regex_cmp r (set s)) ≡ true
    → with_regex (set s) (r ∷ rs) ≡ r ∷ with_regex (set s) rs
unfolding with_regex
further r s rs h =
    ap (λ o. match_ordering o (set s ∷ r ∷ rs) (r ∷ rs) (r ∷ with_regex (set s) rs))
    (regex_cmp_total.antisymm (set s) r ∙ ap ordering_reverse (less_from (regex_cmp r (set s)) h))

-- the one set goes to its place
pub set_in_place : (s : List Range) (rs : List Regex) → ascending rs ≡ true → sets_in rs ≡ s ∷ []
    → with_regex (set s) (without_sets rs) ≡ rs
unfolding ranges_of is_set ascending
set_in_place s [] h e = absurd (nil_not s e)
  where
    nil_not : (s : List Range) → [] ≡ s ∷ [] → ⊥
    nil_not s e = cc
set_in_place s (set t ∷ rs) h e =
    let p = and_parts (before_all (set t) rs) _ h in
    let q = two_parts t s (flat_map ranges_of rs) e in
    ap (with_regex (set s)) (without_sets-whole rs q.1)
    ∙ ap (λ x. with_regex (set x) rs) (sym q.0)
    ∙ with_regex-first (set t) rs p.0
  where
    two_parts : (t s : List Range) (ss : List (List Range)) → t ∷ ss ≡ s ∷ [] → (t ≡ s) × (ss ≡ [])
    two_parts t s ss e = (cc, cc)
set_in_place s (r ∷ rs) h e =
    let p = and_parts (before_all r rs) _ h in
    further r s (without_sets rs) (has_set s rs (λ x. is_lt (regex_cmp r x)) p.0 e)
    ∙ ap (λ xs. r ∷ xs) (set_in_place s rs p.1 e)

-- At most one set stays at most one.

pub sets_in-one : (r : Regex) (rs : List Regex) → length (sets_in (r ∷ rs)) ≡ length (ranges_of r) + length (sets_in rs)
sets_in-one r rs = length-append (ranges_of r) (sets_in rs)

sets_in-with_regex : (r : Regex) (ss : List Regex)
    → length (sets_in (with_regex r ss)) ≤ length (ranges_of r) + length (sets_in ss)
unfolding with_regex
sets_in-with_regex r [] = omega (arith, sets_in-one r [])
sets_in-with_regex r (s ∷ ss) = step (sets_in-with_regex r ss) (regex_cmp r s)
  where
    step : length (sets_in (with_regex r ss)) ≤ length (ranges_of r) + length (sets_in ss) → (o : Ordering) →
        length (sets_in (match_ordering o (r ∷ s ∷ ss) (s ∷ ss) (s ∷ with_regex r ss))) ≤ length
        (ranges_of r) + length (sets_in (s ∷ ss))
    step rest Less = omega (arith, sets_in-one r (s ∷ ss))
    step rest Equal = omega arith
    step rest Greater = omega (arith, rest, sets_in-one s (with_regex r ss), sets_in-one s ss)

pub sets_in-sorted : (rs : List Regex) → length (sets_in (sorted rs)) ≤ length (sets_in rs)
unfolding sorted
sets_in-sorted [] = omega arith
sets_in-sorted (r ∷ rs) = omega (arith, sets_in-sorted rs, sets_in-with_regex r (sorted rs), sets_in-one r rs)

pub sets_in-filter : (t : Regex → Bool) (rs : List Regex) → length (sets_in (filter t rs)) ≤ length (sets_in rs)
sets_in-filter t [] = omega arith
sets_in-filter t (r ∷ rs) = step (sets_in-filter t rs) (t r)
  where
    step : length (sets_in (filter t rs)) ≤ length (sets_in rs) → (b : Bool)
        → length (sets_in (cond b (r ∷ filter t rs) (filter t rs))) ≤ length (sets_in (r ∷ rs))
    step rest true = omega (arith, rest, sets_in-one r (filter t rs), sets_in-one r rs)
    step rest false = omega (arith, rest, sets_in-one r rs)

pub one_set_in : (rs : List Regex) → length (sets_in rs) ≤ 1
    → (sets_in rs ≡ []) ⊎ ((s : List Range) × (sets_in rs ≡ s ∷ []))
one_set_in rs h = at_most_one (sets_in rs) h
  where
    at_most_one : (ss : List (List Range)) → length ss ≤ 1 → (ss ≡ []) ⊎ ((s : List Range) × (ss ≡ s ∷ []))
    at_most_one [] le = inl refl
    at_most_one (s ∷ []) le = inr (s, refl)
    at_most_one (s ∷ t ∷ ss) le = absurd (omega arith)

-- sorting puts the one set back
pub sorted_again : (t : Regex → Bool) (s : List Range) (rs : List Regex) → list_all t rs ≡ true → ascending rs ≡ true
    → sets_in rs ≡ s ∷ [] → sorted (filter t (set s ∷ without_sets rs)) ≡ rs
unfolding sorted
sorted_again t s rs passes rising one =
    let kept : filter t (set s ∷ without_sets rs) ≡ set s ∷ without_sets rs =
    filter-whole t (set s ∷ without_sets rs)
    (ap₂ ◌&&◌ (has_set s rs t passes one) (list_all-filter t (λ r. not (is_set r)) rs passes)) in
    ap sorted kept
    ∙ ap (with_regex (set s)) (sorted-ascending (without_sets rs) (ascending-filter (λ r. not (is_set r)) rs rising))
    ∙ set_in_place s rs rising one

pub sorted_whole : (t : Regex → Bool) (rs : List Regex) → list_all t rs ≡ true → ascending rs ≡ true
    → sorted (filter t rs) ≡ rs
sorted_whole t rs passes rising = ap sorted (filter-whole t rs passes) ∙ sorted-ascending rs rising
