-- An ascending list is told by its members.
use Rattle.std.proofs.Common.{◌++◌, cond, ◌≡◌, Bool, true, false, ◌&&◌, ◌||◌, List, [], ◌∷◌, refl, sym, ap, ap₂, ◌∙◌}
use Rattle.std.specs.List.{filter, list_any, AllByRecursion}
use Rattle.std.specs.List.Sorted.{IsStrictlySortedBy}
use Rattle.std.specs.declared.cmp.Ordering.{Ordering}
use Rattle.std.specs.declared.cmp.Ordering.TheVariants.{Less, Equal, Greater}
use Rattle.std.specs.Ordering.{is_lt, is_eq, ordering_reverse, match_ordering}
use Rattle.std.proofs.Math.Bool.{or_self_left}
use Rattle.std.proofs.lemmas.List.Folds.{list_any-append}
use Rattle.std.proofs.lemmas.Bool.{and_parts, false≢true}
use Rattle.sb_lang.specs.Regex.{Regex}
use Rattle.sb_lang.specs.Order.{regex_cmp, regex_eq}
use Rattle.sb_lang.specs.Constructors.{with_regex, sorted}
use Rattle.sb_lang.specs.SortedLaws.{is_member}
use Rattle.sb_lang.proofs.OrderFacts.{same_regex, cmp_decides, regex_cmp_total, regex_eq-itself}
use Rattle.sb_lang.proofs.SortedFacts.{before_all, ascending, less_from, ascending-sorted}
use Rattle.sb_lang.proofs.BoolFacts.{or_swap}

list_any-with_regex : (p : Regex → Bool) (r : Regex) (ss : List Regex)
    → list_any p (with_regex r ss) ≡ (p r || list_any p ss)
unfolding with_regex
list_any-with_regex p r [] = refl
list_any-with_regex p r (s ∷ ss) = step (list_any-with_regex p r ss) (regex_cmp r s) refl
  where
    step : list_any p (with_regex r ss) ≡ (p r || list_any p ss) → (o : Ordering) → regex_cmp r s ≡ o →
        list_any p (match_ordering o (r ∷ s ∷ ss) (s ∷ ss) (s ∷ with_regex r ss))
        ≡ (p r || (p s || list_any p ss))
    step rest Less is = refl
    step rest Equal is = sym (or_self_left (p s) (list_any p ss))
        ∙ ap (λ x. p x || (p s || list_any p ss)) (sym ((cmp_decides r s).0 is))
    step rest Greater is = ap (λ x. p s || x) rest ∙ or_swap (p s) (p r) (list_any p ss)

pub list_any-sorted : (p : Regex → Bool) (rs : List Regex) → list_any p (sorted rs) ≡ list_any p rs
unfolding sorted
list_any-sorted p [] = refl
list_any-sorted p (r ∷ rs) = list_any-with_regex p r (sorted rs) ∙ ap (λ x. p r || x) (list_any-sorted p rs)

sorted_has_members : (rs : List Regex) (r : Regex) → is_member r (sorted rs) ≡ is_member r rs
sorted_has_members rs r = list_any-sorted (regex_eq r) rs

-- what stands before all is not among them
before_is_no_member : (r : Regex) (rs : List Regex) → before_all r rs ≡ true → is_member r rs ≡ false
before_is_no_member r [] h = refl
before_is_no_member r (s ∷ ss) h =
    let p = and_parts (is_lt (regex_cmp r s)) (before_all r ss) h in
    ap₂ ◌||◌ (ap is_eq (less_from (regex_cmp r s) p.0)) (before_is_no_member r ss p.1)

further_before : (r s : Regex) (ss : List Regex) → regex_cmp r s ≡ Less → before_all s ss ≡ true
    → before_all r (s ∷ ss) ≡ true
further_before r s ss less h = ap₂ ◌&&◌ (ap is_lt less) (tail ss h)
  where
    tail : (xs : List Regex) → before_all s xs ≡ true → before_all r xs ≡ true
    tail [] g = refl
    tail (x ∷ xs) g =
        let q = and_parts (is_lt (regex_cmp s x)) (before_all s xs) g in
        ap₂ ◌&&◌ (ap is_lt (regex_cmp_total.trans r s x less (less_from (regex_cmp s x) q.0))) (tail xs q.1)

first_is_member : (r : Regex) (rs : List Regex) → is_member r (r ∷ rs) ≡ true
first_is_member r rs = ap (λ b. b || is_member r rs) (regex_eq-itself r)

pub only_ascending : (xs ys : List Regex) → ascending xs ≡ true → ascending ys ≡ true
    → ((r : Regex) → is_member r xs ≡ is_member r ys) → xs ≡ ys
unfolding ascending
only_ascending [] [] h g same = refl
only_ascending [] (y ∷ ys) h g same = absurd (false≢true (same y ∙ first_is_member y ys))
only_ascending (x ∷ xs) [] h g same = absurd (false≢true (sym (same x) ∙ first_is_member x xs))
only_ascending (x ∷ xs) (y ∷ ys) h g same =
    let p = and_parts (before_all x xs) (ascending xs) h in
    let q = and_parts (before_all y ys) (ascending ys) g in
    let heads = one_head x y xs ys p.0 q.0 (same x) (same y) (regex_cmp x y) refl in
    ap₂ ◌∷◌ heads (only_ascending xs ys p.1 q.1 (λ r. rest_same x y xs ys p.0 q.0 heads r (same r)))
  where
    one_head : (x y : Regex) (xs ys : List Regex) → before_all x xs ≡ true → before_all y ys ≡ true
        → is_member x (x ∷ xs) ≡ is_member x (y ∷ ys) → is_member y (x ∷ xs) ≡ is_member y (y ∷ ys) → (o : Ordering)
        → regex_cmp x y ≡ o → x ≡ y
    one_head x y xs ys p q at_x at_y Less is =
        absurd (false≢true (sym (before_is_no_member x (y ∷ ys) (further_before x y ys is q)) ∙ sym at_x
        ∙ first_is_member x xs))
    one_head x y xs ys p q at_x at_y Equal is = (cmp_decides x y).0 is
    one_head x y xs ys p q at_x at_y Greater is =
        let less : regex_cmp y x ≡ Less = regex_cmp_total.antisymm y x ∙ ap ordering_reverse is in
        absurd (false≢true (sym (before_is_no_member y (x ∷ xs) (further_before y x xs less p)) ∙ at_y
        ∙ first_is_member y ys))

    rest_same : (x y : Regex) (xs ys : List Regex) → before_all x xs ≡ true → before_all y ys ≡ true → x ≡ y
        → (r : Regex) → is_member r (x ∷ xs) ≡ is_member r (y ∷ ys) → is_member r xs ≡ is_member r ys
    rest_same x y xs ys p q heads r at_r = step (regex_eq r x) refl
      where
        step : (b : Bool) → regex_eq r x ≡ b → is_member r xs ≡ is_member r ys
        step true is =
            let e = same_regex r x is in
            ap (λ z. is_member z xs) e ∙ before_is_no_member x xs p
            ∙ sym (ap (λ z. is_member z ys) (e ∙ heads) ∙ before_is_no_member y ys q)
        step false is =
            ap (λ b. b || is_member r xs) (sym is) ∙ at_r ∙ ap (λ z. regex_eq r z || is_member r ys) (sym heads)
            ∙ ap (λ b. b || is_member r ys) is

-- the order of std's word

before_all-from : (r : Regex) (rs : List Regex) → AllByRecursion (λ s. regex_cmp r s ≡ Less) rs → before_all r rs ≡ true
before_all-from r [] h = refl
before_all-from r (s ∷ ss) h = ap₂ ◌&&◌ (ap is_lt h.0) (before_all-from r ss h.1)

ascending-from : (rs : List Regex) → IsStrictlySortedBy regex_cmp rs → ascending rs ≡ true
unfolding ascending IsStrictlySortedBy
ascending-from [] h = refl
ascending-from (r ∷ rs) h = ap₂ ◌&&◌ (before_all-from r rs h.0) (ascending-from rs h.1)

pub sorted_is_the_only : (rs ss : List Regex) → IsStrictlySortedBy regex_cmp ss
    → ((r : Regex) → is_member r ss ≡ is_member r rs) → ss ≡ sorted rs
sorted_is_the_only rs ss h same =
    only_ascending ss (sorted rs) (ascending-from ss h) (ascending-sorted rs)
    (λ r. same r ∙ sym (sorted_has_members rs r))

pub is_member-filter : (r : Regex) (t : Regex → Bool) (rs : List Regex)
    → is_member r (filter t rs) ≡ (t r && is_member r rs)
is_member-filter r t [] = nothing (t r)
  where
    nothing : (b : Bool) → false ≡ (b && false)
    nothing true = refl
    nothing false = refl
is_member-filter r t (x ∷ xs) = step (is_member-filter r t xs) (t x) refl (regex_eq r x) refl
  where
    step : is_member r (filter t xs) ≡ (t r && is_member r xs) → (b : Bool) → t x ≡ b → (d : Bool) → regex_eq r x ≡ d →
        is_member r (cond b (x ∷ filter t xs) (filter t xs)) ≡ (t r && (d || is_member r xs))
    step rest true is true eq =
        ap (λ e. e || is_member r (filter t xs)) eq ∙ ap (λ e. e && true) (sym is ∙ ap t (sym (same_regex r x eq)))
    step rest true is false eq = ap (λ e. e || is_member r (filter t xs)) eq ∙ rest
    step rest false is true eq = rest ∙ ap (λ e. e && is_member r xs) at_r ∙ ap (λ e. e && true) (sym at_r)
      where
        at_r : t r ≡ false
        at_r = ap t (same_regex r x eq) ∙ is
    step rest false is false eq = rest

pub is_member-both : (r : Regex) (xs ys : List Regex) → is_member r (xs ++ ys) ≡ (is_member r xs || is_member r ys)
is_member-both r xs ys = list_any-append (regex_eq r) xs ys
