-- Two lists in order, merged.
use Rattle.std.proofs.Common.{◌≡◌, ℕ, ◌+◌, ◌-◌, ◌<◌, ◌≤◌, Bool, true, false, ◌||◌, List, [], ◌∷◌, ◌++◌, length, get_or, take, drop, reverse, Result, Ok, Err, IfOk, refl, sym, ap, ap₂, ◌∙◌, arith, add-one, append_assoc, drop-cons, length-drop}
use Rattle.std.specs.declared.cmp.Ordering.{Ordering}
use Rattle.std.specs.declared.cmp.Ordering.TheVariants.{Less, Equal, Greater}
use Rattle.std.specs.Ordering.{ordering_reverse}
use Rattle.std.specs.Cmp.{IsTotalOrder}
use Rattle.std.specs.List.{AllByRecursion, list_any}
use Rattle.std.specs.List.Sorted.{IsStrictlySortedBy}
use Rattle.std.proofs.lemmas.List.{length-map, length-reverse, get_or-map, get_or-reverse, get_or-take, length-take-le, map-append, take-append-drop, take_all}
use Rattle.std.proofs.lemmas.List.Elements.{All-append, All-cons, All-drop, All-nil, All-take}
use Rattle.std.proofs.lemmas.List.Folds.{list_any-append}
use Rattle.std.proofs.lemmas.List.Sorted.{All-permutation, IsPermutation-reverse, list_any-IsPermutation}
use Rattle.std.proofs.lemmas.Map.Keys.{sorted_from_all_adjacent}
use Rattle.sb_lang.specs.Regex.{Regex}
use Rattle.sb_lang.specs.Order.{regex_cmp, regex_eq}
use Rattle.sb_lang.specs.OrderLaws.{OrderTellsApart}
use Rattle.sb_lang.specs.SortedLaws.{is_member}
use Rattle.sb_lang.specs.FoldLaws.{SameMembers}
use Rattle.sb_regex.specs.Numbered.{regex_at, regexes_at, AllNumbers}
use Rattle.sb_regex.specs.Steps.{AreAlike, AreSteps}
use Rattle.sb_regex.proofs.Gathering.{ats-append}

-- Strictly sorted lists.

each_from : (P Q : Regex → Type 0) → ((r : Regex) → P r → Q r) → (rs : List Regex) → AllByRecursion P rs
    → AllByRecursion Q rs
each_from P Q f [] h = tt
each_from P Q f (r ∷ rs) h = (f r h.0, each_from P Q f rs h.1)

each_left : (P : Regex → Type 0) (rs ss : List Regex) → AllByRecursion P (rs ++ ss) → AllByRecursion P rs
each_left P [] ss h = tt
each_left P (r ∷ rs) ss h = (h.0, each_left P rs ss h.1)

each_right : (P : Regex → Type 0) (rs ss : List Regex) → AllByRecursion P (rs ++ ss) → AllByRecursion P ss
each_right P [] ss h = h
each_right P (r ∷ rs) ss h = each_right P rs ss h.1

each_both : (P : Regex → Type 0) (rs ss : List Regex) → AllByRecursion P rs → AllByRecursion P ss
    → AllByRecursion P (rs ++ ss)
each_both P [] ss h g = g
each_both P (r ∷ rs) ss h g = (h.0, each_both P rs ss h.1 g)

-- one more regex in front of a list that follows the same members
between : IsTotalOrder regex_cmp → (us : List Regex) (x : Regex) (xs : List Regex) (y : Regex) (ys : List Regex)
    → IsStrictlySortedBy regex_cmp (us ++ x ∷ xs) → IsStrictlySortedBy regex_cmp (us ++ y ∷ ys)
    → regex_cmp x y ≡ Less → IsStrictlySortedBy regex_cmp (us ++ x ∷ y ∷ ys)
unfolding IsStrictlySortedBy
between total [] x xs y ys p q less =
    ((less, each_from (λ r. regex_cmp y r ≡ Less) (λ r. regex_cmp x r ≡ Less) (λ r. total.trans x y r less) ys q.0), q)
between total (a ∷ us) x xs y ys p q less = (
  each_both (λ r. regex_cmp a r ≡ Less) us (x ∷ y ∷ ys) (each_left _ us (x ∷ xs) p.0) (
    (each_right (λ r. regex_cmp a r ≡ Less) us (x ∷ xs) p.0).0,
    each_right (λ r. regex_cmp a r ≡ Less) us (y ∷ ys) q.0,
  ),
  between total us x xs y ys p.1 q.1 less,
)

taken_out : (us : List Regex) (x : Regex) (xs : List Regex) → IsStrictlySortedBy regex_cmp (us ++ x ∷ xs)
    → IsStrictlySortedBy regex_cmp (us ++ xs)
unfolding IsStrictlySortedBy
taken_out [] x xs h = h.1
taken_out (a ∷ us) x xs h = (
  each_both (λ r. regex_cmp a r ≡ Less) us xs (each_left _ us (x ∷ xs) h.0)
      (each_right (λ r. regex_cmp a r ≡ Less) us (x ∷ xs) h.0).1,
  taken_out us x xs h.1,
)

-- What is merged, and what is left of both lists.

abbrev pub IsMerged : List Regex → List Regex → List Regex → List Regex → Type 0
IsMerged us xs ys whole =
    IsStrictlySortedBy regex_cmp (us ++ xs)
    × IsStrictlySortedBy regex_cmp (us ++ ys)
    × SameMembers (us ++ (xs ++ ys)) whole

member_both : (r : Regex) (xs ys : List Regex) → is_member r (xs ++ ys) ≡ (is_member r xs || is_member r ys)
member_both r xs ys = list_any-append (regex_eq r) xs ys

three : (r : Regex) (us xs ys : List Regex)
    → is_member r (us ++ (xs ++ ys)) ≡ (is_member r us || (is_member r xs || is_member r ys))
three r us xs ys = member_both r us (xs ++ ys) ∙ ap (λ b. is_member r us || b) (member_both r xs ys)

left_first : IsTotalOrder regex_cmp → (us : List Regex) (x : Regex) (xs : List Regex) (y : Regex)
    (ys whole : List Regex)
    → regex_cmp x y ≡ Less → IsMerged us (x ∷ xs) (y ∷ ys) whole → IsMerged (us ++ x ∷ []) xs (y ∷ ys) whole
left_first total us x xs y ys whole less m =
    rw (append_assoc us (x ∷ []) xs, append_assoc us (x ∷ []) (y ∷ ys), append_assoc us (x ∷ []) (xs ++ y ∷ ys))
    (m.0, between total us x xs y ys m.0 m.1 less, m.2)

right_first : IsTotalOrder regex_cmp → (us : List Regex) (x : Regex) (xs : List Regex) (y : Regex)
    (ys whole : List Regex)
    → regex_cmp x y ≡ Greater → IsMerged us (x ∷ xs) (y ∷ ys) whole → IsMerged (us ++ y ∷ []) (x ∷ xs) ys whole
right_first total us x xs y ys whole greater m =
    rw (append_assoc us (y ∷ []) (x ∷ xs), append_assoc us (y ∷ []) ys) (
      between total us y ys x xs m.1 m.0 (total.antisymm y x ∙ ap ordering_reverse greater),
      m.1,
      λ r.
          three r (us ++ y ∷ []) (x ∷ xs) ys
          ∙ ap (λ b. b || (is_member r (x ∷ xs) || is_member r ys)) (member_both r us (y ∷ []))
          ∙ turned (is_member r us) (regex_eq r y) (is_member r (x ∷ xs)) (is_member r ys)
          ∙ sym (three r us (x ∷ xs) (y ∷ ys))
          ∙ m.2 r,
    )
  where
    turned : (a y x t : Bool) → ((a || (y || false)) || (x || t)) ≡ (a || (x || (y || t)))
    turned true y x t = refl
    turned false true true t = refl
    turned false true false t = refl
    turned false false x t = refl

same_first : OrderTellsApart → (us : List Regex) (x : Regex) (xs : List Regex) (y : Regex) (ys whole : List Regex)
    → regex_cmp x y ≡ Equal → IsMerged us (x ∷ xs) (y ∷ ys) whole → IsMerged us xs (y ∷ ys) whole
same_first tells us x xs y ys whole equal m = (
  taken_out us x xs m.0,
  m.1,
  λ r.
      three r us xs (y ∷ ys)
      ∙ ap (λ b. is_member r us || b) (twice (regex_eq r y) (is_member r xs) (is_member r ys))
      ∙ ap (λ z. is_member r us || ((regex_eq r z || is_member r xs) || (regex_eq r y || is_member r ys)))
      (sym ((tells x y).0 equal))
      ∙ sym (three r us (x ∷ xs) (y ∷ ys))
      ∙ m.2 r,
)
  where
    twice : (y s t : Bool) → (s || (y || t)) ≡ ((y || s) || (y || t))
    twice true true t = refl
    twice true false t = refl
    twice false s t = refl

-- The same of numbers.

abbrev pub NumbersMerged : List Regex → List ℕ → List ℕ → List ℕ → List Regex → Type 0
NumbersMerged rs all left right whole = IsMerged (regexes_at rs all) (regexes_at rs left) (regexes_at rs right) whole

merged_of : (us xs vs ys ws whole : List Regex) → xs ≡ vs → ys ≡ ws → IsMerged us xs ys whole
    → IsMerged us vs ws whole
merged_of us xs vs ys ws whole e f m = rw (← e, ← f) m

rest_is : (rs : List Regex) (ids : List ℕ) (i x : ℕ) → i < length ids → x ≡ get_or ids i x
    → regexes_at rs (drop i ids) ≡ regex_at rs x ∷ regexes_at rs (drop (i + 1) ids)
rest_is rs ids i x l is =
    ap (regexes_at rs) (drop-cons ids i x l)
    ∙ ap₂ (λ z k. regex_at rs z ∷ regexes_at rs (drop k ids)) (sym is) (sym (add-one i))

module _ (rs : List Regex) (all after left right : List ℕ) (i j x y : ℕ) (whole : List Regex)
    (l : i < length left) (m : j < length right) (left_is : x ≡ get_or left i x) (right_is : y ≡ get_or right j y)
    (merged : NumbersMerged rs all (drop i left) (drop j right) whole) where
  whole_merged : IsMerged (regexes_at rs all) (regex_at rs x ∷ regexes_at rs (drop (i + 1) left))
      (regex_at rs y ∷ regexes_at rs (drop (j + 1) right)) whole
  whole_merged =
      merged_of (regexes_at rs all) _ _ _ _ whole (rest_is rs left i x l left_is)
      (rest_is rs right j y m right_is) merged

  pub take_left : IsTotalOrder regex_cmp → after ≡ all ++ x ∷ [] → regex_cmp (regex_at rs x) (regex_at rs y) ≡ Less
      → NumbersMerged rs after (drop (i + 1) left) (drop j right) whole
  take_left total pushed less =
      rw (ats-append rs all (x ∷ []) after pushed, rest_is rs right j y m right_is)
      (left_first total (regexes_at rs all) (regex_at rs x) (regexes_at rs (drop (i + 1) left)) (regex_at rs y)
      (regexes_at rs (drop (j + 1) right)) whole less whole_merged)

  pub take_right : IsTotalOrder regex_cmp → after ≡ all ++ y ∷ []
      → regex_cmp (regex_at rs x) (regex_at rs y) ≡ Greater
      → NumbersMerged rs after (drop i left) (drop (j + 1) right) whole
  take_right total pushed greater =
      rw (ats-append rs all (y ∷ []) after pushed, rest_is rs left i x l left_is)
      (right_first total (regexes_at rs all) (regex_at rs x) (regexes_at rs (drop (i + 1) left)) (regex_at rs y)
      (regexes_at rs (drop (j + 1) right)) whole greater whole_merged)

  pub skip_left : OrderTellsApart → regex_cmp (regex_at rs x) (regex_at rs y) ≡ Equal
      → NumbersMerged rs all (drop (i + 1) left) (drop j right) whole
  skip_left tells equal =
      rw (rest_is rs right j y m right_is)
      (same_first tells (regexes_at rs all) (regex_at rs x) (regexes_at rs (drop (i + 1) left)) (regex_at rs y)
      (regexes_at rs (drop (j + 1) right)) whole equal whole_merged)

-- Numbers that rise one by one are in order.

pub rising_sorted : IsTotalOrder regex_cmp → (rs : List Regex) (ids : List ℕ) → AreSteps rs Less ids
    → IsStrictlySortedBy regex_cmp (regexes_at rs ids)
rising_sorted total rs ids h =
    sorted_from_all_adjacent total (regexes_at rs ids) (regex_at rs 0) (λ k l.
    let n : k + 1 < length ids = omega (arith, l, length-map ids (regex_at rs)) in
    ap₂ (λ x y. regex_cmp x y) (get_or-map (regex_at rs) ids k 0 _ (omega (arith, n)))
    (get_or-map (regex_at rs) ids (k + 1) 0 _ n)
    ∙ h k n)

-- Numbers that fall one by one are in order from the last to the first.

pub turned_rises : IsTotalOrder regex_cmp → (rs : List Regex) (ids : List ℕ) → AreSteps rs Greater ids
    → AreSteps rs Less (reverse ids)
turned_rises total rs ids falls k l =
    let n = length-reverse ids in
    let j = length ids - 1 - (k + 1) in
    let here : length ids - 1 - k ≡ j + 1 = omega (arith, l, n) in
    ap₂ (λ x y. regex_cmp (regex_at rs x) (regex_at rs y))
    (get_or-reverse ids k 0 (omega (arith, l, n)) ∙ ap (λ m. get_or ids m 0) here)
    (get_or-reverse ids (k + 1) 0 (omega (arith, l, n)))
    ∙ total.antisymm (regex_at rs (get_or ids (j + 1) 0)) (regex_at rs (get_or ids j 0))
    ∙ ap ordering_reverse (falls j (omega (arith, l, n)))

member_at : (rs : List Regex) (r : Regex) (ids : List ℕ)
    → is_member r (regexes_at rs ids) ≡ list_any (λ n. regex_eq r (regex_at rs n)) ids
member_at rs r [] = refl
member_at rs r (n ∷ ids) = ap (λ b. regex_eq r (regex_at rs n) || b) (member_at rs r ids)

pub turned_members : (rs : List Regex) (ids : List ℕ) → SameMembers (regexes_at rs (reverse ids)) (regexes_at rs ids)
turned_members rs ids r =
    member_at rs r (reverse ids)
    ∙ sym (list_any-IsPermutation (λ n. regex_eq r (regex_at rs n)) ids (reverse ids) (IsPermutation-reverse ids))
    ∙ sym (member_at rs r ids)

pub turned_numbers : (rs : List Regex) (ids : List ℕ) → AllNumbers rs ids → AllNumbers rs (reverse ids)
turned_numbers rs ids all =
    All-permutation (λ i. i < length rs) ids (reverse ids) (IsPermutation-reverse ids) all

pub front_numbers : (rs : List Regex) (n : ℕ) (ids : List ℕ) → AllNumbers rs ids → AllNumbers rs (take n ids)
front_numbers rs n ids all = All-take (λ i. i < length rs) n ids all

pub rest_numbers : (rs : List Regex) (n m : ℕ) (ids : List ℕ) → AllNumbers rs ids
    → AllNumbers rs (take m (drop n ids))
rest_numbers rs n m ids all = front_numbers rs m (drop n ids) (All-drop (λ i. i < length rs) n ids all)

pub front_shorter : (n : ℕ) (ids : List ℕ) → n < length ids → length (take n ids) < length ids
front_shorter n ids l = omega (arith, l, length-take-le n ids (omega (arith, l)))

pub rest_shorter : (n : ℕ) (ids : List ℕ) → 0 < n → n ≤ length ids
    → length (take (length ids - n) (drop n ids)) < length ids
rest_shorter n ids some within =
    omega (
      arith,
      some,
      within,
      length-drop n ids,
      ap length (take_all (length ids - n) (drop n ids)
          (omega (arith, length-drop n ids))),
    )

pub steps_in_front : (rs : List Regex) (step : Ordering) (ids : List ℕ) (n : ℕ) → n ≤ length ids
    → ((k : ℕ) → k + 1 < n → regex_cmp (regex_at rs (get_or ids k 0)) (regex_at rs (get_or ids (k + 1) 0)) ≡ step)
    → AreSteps rs step (take n ids)
steps_in_front rs step ids n within h k l =
    let m : k + 1 < n = omega (arith, l, length-take-le n ids within) in
    ap₂ (λ x y. regex_cmp (regex_at rs x) (regex_at rs y)) (get_or-take n ids k 0 (omega (arith, m)))
    (get_or-take n ids (k + 1) 0 m)
    ∙ h k m

-- One more pair on the way of a comparison.

pub alike_more : (rs : List Regex) (a b : ℕ) (before after : List (ℕ × ℕ)) (x y : ℕ) → x < length rs → y < length rs
    → regex_cmp (regex_at rs a) (regex_at rs b) ≡ regex_cmp (regex_at rs x) (regex_at rs y)
    → after ≡ before ++ (x, y) ∷ [] → AreAlike rs a b before → AreAlike rs a b after
alike_more rs a b before after x y l m is pushed alike =
    let good = λ (p : ℕ × ℕ). (p.0 < length rs) × (p.1 < length rs)
    × (regex_cmp (regex_at rs a) (regex_at rs b) ≡ regex_cmp (regex_at rs p.0) (regex_at rs p.1)) in
    rw pushed (All-append good before ((x, y) ∷ []) alike (All-cons good (x, y) [] (l, m, is) (All-nil good)))

-- A list cut in two, and each part sorted.

pub ok_from : {T E : Type 0} (P Q : T → Type 0) (r : Result T E) → ((x : T) → P x → Q x) → IfOk r P → IfOk r Q
ok_from P Q (Ok x) f h = f x h
ok_from P Q (Err e) f h = tt

pub rest_whole : (n : ℕ) (ids : List ℕ) → take (length ids - n) (drop n ids) ≡ drop n ids
rest_whole n ids = take_all (length ids - n) (drop n ids) (omega (arith, length-drop n ids))

pub halves : (rs : List Regex) (ids first second : List ℕ) (n : ℕ) (whole : List Regex)
    → SameMembers (regexes_at rs first) (regexes_at rs (take n ids))
    → SameMembers (regexes_at rs second) (regexes_at rs (drop n ids))
    → SameMembers whole (regexes_at rs first ++ regexes_at rs second) → SameMembers whole (regexes_at rs ids)
halves rs ids first second n whole f s w r =
    w r
    ∙ member_both r (regexes_at rs first) (regexes_at rs second)
    ∙ ap₂ ◌||◌ (f r) (s r)
    ∙ sym (member_both r (regexes_at rs (take n ids)) (regexes_at rs (drop n ids)))
    ∙ ap (λ xs. is_member r xs) (sym (map-append (regex_at rs) (take n ids) (drop n ids)))
    ∙ ap (λ xs. is_member r (regexes_at rs xs)) (take-append-drop n ids)
