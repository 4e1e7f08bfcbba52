-- Linked lists of numbers.
use Rattle.std.proofs.Common.{◌≡◌, ℕ, zero, suc, ◌+◌, ◌-◌, ◌<◌, ◌≤◌, false, cond, eqb, List, [], ◌∷◌, ◌++◌, length, get_or, set, drop, replicate, Option, Some, None, refl, sym, ◌∙◌, ap, subst, inl, inr, arith}
use Rattle.std.specs.List.{list_any, IsDistinct, AllByRecursion}
use Rattle.std.proofs.lemmas.Bool.{false≢true, cases_eq, cases_lt, eq-eqb, ne_eqb, or_from}
use Rattle.std.proofs.lemmas.Option.{same_Some, none-some}
use Rattle.std.proofs.lemmas.List.{length-map, length-set, length-append, length-replicate, get_or-map, get_or-set_same, get_or-set_other, get_or_append_left, get_or-append_right, get_or-replicate, get_or_default, same_lists}
use Rattle.std.proofs.lemmas.List.Sums.{sum_by-cons, sum_by-set, sum_by-append, get_or-le-sum_by}
use Rattle.std.proofs.lemmas.List.Folds.{sum_by-replicate}
use Rattle.std.proofs.lemmas.Map.Steps.{length-le_from_distinct_below}
use Rattle.sb_clauses.specs.WatchLists.{WatchLists, times_in, times, list_from, lists_from, IsListFrom, AreListsOf}

abbrev pub one_if : ℕ → ℕ → ℕ
one_if m n = cond (eqb m n) 1 0

pub times_in-cons : (q x : ℕ) (xs : List ℕ) → times_in q (x ∷ xs) ≡ cond (eqb x q) 1 0 + times_in q xs
times_in-cons q x xs = sum_by-cons (λ m. cond (eqb m q) 1 0) x xs

-- the first of a list stands there
pub times_in-first : (x : ℕ) (xs : List ℕ) → times_in x (x ∷ xs) ≡ 1 + times_in x xs
times_in-first x xs = times_in-cons x x xs ∙ rw (eq-eqb x x refl) refl

pub times_in-other : (q x : ℕ) (xs : List ℕ) → (x ≡ q → ⊥) → times_in q (x ∷ xs) ≡ times_in q xs
times_in-other q x xs other = times_in-cons q x xs ∙ rw (ne_eqb x q other) (omega arith)

-- where a number stands nowhere in a list the first is another one, and it is nowhere in the rest
nowhere_parts : (q x : ℕ) (xs : List ℕ) → times_in q (x ∷ xs) ≡ 0 → (x ≡ q → ⊥) × (times_in q xs ≡ 0)
nowhere_parts q x xs h =
    elim (cases_eq x q) [
      | inl same ↦
          let first : times_in x (x ∷ xs) ≡ 0 = ap (λ m. times_in m (x ∷ xs)) same ∙ h in
          absurd (omega (arith, first, times_in-first x xs))
      | inr other ↦ (other, sym (times_in-other q x xs other) ∙ h)
    ]

all_others : (q : ℕ) (xs : List ℕ) → times_in q xs ≡ 0 → AllByRecursion (λ y. eqb q y ≡ false) xs
all_others q [] h = tt
all_others q (x ∷ xs) h =
    let parts = nowhere_parts q x xs h in
    (ne_eqb q x (λ same. parts.0 (sym same)), all_others q xs parts.1)

not_in : (q : ℕ) (xs : List ℕ) → times_in q xs ≡ 0 → list_any (eqb q) xs ≡ false
not_in q [] h = refl
not_in q (x ∷ xs) h =
    let parts = nowhere_parts q x xs h in
    or_from (eqb q x) (list_any (eqb q) xs) (ne_eqb q x (λ same. parts.0 (sym same))) (not_in q xs parts.1)

distinct_by_times : (xs : List ℕ) → ((q : ℕ) → times_in q xs ≤ 1) → IsDistinct eqb xs
unfolding IsDistinct
distinct_by_times [] h = tt
distinct_by_times (x ∷ xs) h =
    let none : times_in x xs ≡ 0 = omega (arith, h x, times_in-first x xs) in
    let rest : (q : ℕ) → times_in q xs ≤ 1 = λ q. omega (arith, h q, times_in-cons q x xs) in
    (all_others x xs none, distinct_by_times xs rest)

list_from-is : (next : List (Option ℕ)) (most : ℕ) (start : Option ℕ) (xs : List ℕ) → IsListFrom next start xs
    → length xs ≤ most → list_from next most start ≡ xs
unfolding list_from
list_from-is next zero start [] h within = refl
list_from-is next (suc most) start [] h within = rw h refl
list_from-is next zero start (x ∷ xs) h within = absurd (omega arith)
list_from-is next (suc most) start (x ∷ xs) h within =
    rw h.0 (ap (λ ys. x ∷ ys) (list_from-is next most (get_or next x None) xs h.1 (omega arith)))

module _ (heads next : List (Option ℕ)) (lists : List (List ℕ)) (h : AreListsOf heads next lists) where
  -- a list is no longer than there are numbers
  short_list : (at : ℕ) → at < length heads → length (get_or lists at []) ≤ length next
  short_list at within =
      let xs : List ℕ = get_or lists at [] in
      let place : at < length lists = omega (arith, h.len) in
      let part : (q : ℕ) → times_in q xs ≤ times q lists = λ q. get_or-le-sum_by (times_in q) lists at [] place in
      length-le_from_distinct_below xs (length next) (distinct_by_times xs (λ q. omega (arith, part q, h.apart.once q)))
      (λ q is_in.
      elim (cases_lt q (length next)) [
        | inl below ↦ below
        | inr past ↦ absurd (false≢true (sym (not_in q xs (omega (arith, part q, h.apart.below q past))) ∙ is_in))
      ])

  pub lists_are : lists_from heads next ≡ lists
  lists_are =
      same_lists (lists_from heads next) lists (length-map heads (list_from next (length next)) ∙ sym h.len)
      (λ k d within.
      let place : k < length heads = omega (arith, length-map heads (list_from next (length next))) in
      let in_lists : k < length lists = omega (arith, h.len) in
      get_or-map (list_from next (length next)) heads k None d place
      ∙ list_from-is next (length next) (get_or heads k None) (get_or lists k []) (h.each k place)
      (short_list k place) ∙ default_of lists k [] d in_lists)
    where
      default_of : (ls : List (List ℕ)) (k : ℕ) (d e : List ℕ) → k < length ls → get_or ls k d ≡ get_or ls k e
      default_of ls k d e within = get_or_default ls k d e within

-- a write behind a number that does not stand in a list leaves the list
list_stays : (next : List (Option ℕ)) (n : ℕ) (v start : Option ℕ) (xs : List ℕ) → times_in n xs ≡ 0
    → IsListFrom next start xs → IsListFrom (set next n v) start xs
list_stays next n v start [] none h = h
list_stays next n v start (x ∷ xs) none h =
    let parts = nowhere_parts n x xs none in (
      h.0,
      list_stays next n v (get_or (set next n v) x None) xs parts.1
          (rw (get_or-set_other next n x v None parts.0) h.1),
    )

pub AreListsOf-push : (heads next : List (Option ℕ)) (lists : List (List ℕ)) → AreListsOf heads next lists → (at n : ℕ)
    → at < length heads → n < length next → times n lists ≡ 0
    → AreListsOf (set heads at (Some n)) (set next n (get_or heads at None)) (set lists at (n ∷ get_or lists at []))
AreListsOf-push heads next lists h at n place below nowhere =
    let in_lists : at < length lists = omega (arith, h.len) in
    let count : (q : ℕ) → times q (set lists at (n ∷ get_or lists at [])) ≡ times q lists + cond (eqb n q) 1 0 = λ q.
    omega (
      arith,
      sum_by-set (times_in q) lists at (n ∷ get_or lists at []) [] in_lists,
      times_in-cons q n (get_or lists at []),
    ) in
    record {
      len = length-set lists at (n ∷ get_or lists at []) ∙ h.len ∙ sym (length-set heads at (Some n));
      each = λ k within.
          let inside : k < length heads = omega (arith, length-set heads at (Some n)) in
          let free : times_in n (get_or lists k []) ≡ 0 =
          omega (arith, nowhere, get_or-le-sum_by (times_in n) lists k [] (omega (arith, h.len))) in
          elim (cases_eq k at) [
            | inl here ↦
                let stays = list_stays next n (get_or heads at None) (get_or heads at None) (get_or lists at [])
                (rw here at free) (h.each at place) in
                let list : IsListFrom (set next n (get_or heads at None)) (Some n) (n ∷ get_or lists at []) =
                (refl, rw (get_or-set_same next n (get_or heads at None) None below) stays) in
                rw (
                  here,
                  get_or-set_same heads at (Some n) None place,
                  get_or-set_same lists at (n ∷ get_or lists at []) [] in_lists,
                ) list
            | inr other ↦
                rw (
                  get_or-set_other heads at k (Some n) None other,
                  get_or-set_other lists at k (n ∷ get_or lists at []) [] other,
                )
                (list_stays next n (get_or heads at None) (get_or heads k None) (get_or lists k []) free
                (h.each k inside))
          ];
      apart = record {
        once = λ q.
            elim (cases_eq n q) [
              | inl same ↦ omega (arith, count q, rw same at nowhere, rw (eq-eqb n q same) at (count q))
              | inr other ↦ omega (arith, rw (ne_eqb n q other) at (count q), h.apart.once q)
            ];
        below = λ q past.
            let old : length next ≤ q = omega (arith, length-set next n (get_or heads at None)) in
            omega (arith, rw (ne_eqb n q (λ same. omega (arith, same))) at (count q), h.apart.below q old);
      };
    }

pub AreListsOf-pop : (heads next : List (Option ℕ)) (lists : List (List ℕ)) → AreListsOf heads next lists
    → (at n : ℕ) (rest : List ℕ) → at < length heads → get_or lists at [] ≡ n ∷ rest
    → AreListsOf (set heads at (get_or next n None)) next (set lists at rest)
AreListsOf-pop heads next lists h at n rest place split =
    let in_lists : at < length lists = omega (arith, h.len) in
    let count : (q : ℕ) → times q (set lists at rest) + cond (eqb n q) 1 0 ≡ times q lists = λ q.
    omega (arith, sum_by-set (times_in q) lists at rest [] in_lists, ap (times_in q) split, times_in-cons q n rest) in
    record {
      len = length-set lists at rest ∙ h.len ∙ sym (length-set heads at (get_or next n None));
      each = λ k within.
          let inside : k < length heads = omega (arith, length-set heads at (get_or next n None)) in
          elim (cases_eq k at) [
            | inl here ↦
                let whole : IsListFrom next (get_or heads at None) (n ∷ rest) = rw split at (h.each at place) in
                rw (
                  here,
                  get_or-set_same heads at (get_or next n None) None place,
                  get_or-set_same lists at rest [] in_lists,
                ) whole.1
            | inr other ↦
                rw (
                  get_or-set_other heads at k (get_or next n None) None other,
                  get_or-set_other lists at k rest [] other,
                ) (h.each k inside)
          ];
      apart = record {
        once = λ q. omega (arith, count q, h.apart.once q);
        below = λ q past. omega (arith, count q, h.apart.below q past);
      };
    }

-- the number that was taken off stands nowhere
pub popped_nowhere : (heads next : List (Option ℕ)) (lists : List (List ℕ)) → AreListsOf heads next lists
    → (at n : ℕ) (rest : List ℕ) → at < length heads → get_or lists at [] ≡ n ∷ rest
    → (n < length next) × (times n (set lists at rest) ≡ 0)
popped_nowhere heads next lists h at n rest place split =
    let in_lists : at < length lists = omega (arith, h.len) in
    let stands : 1 ≤ times n lists =
    omega (arith, get_or-le-sum_by (times_in n) lists at [] in_lists, ap (times_in n) split, times_in-first n rest)
    in
    let below : n < length next =
    elim (cases_lt n (length next)) [
      | inl within ↦ within
      | inr past ↦ absurd (omega (arith, h.apart.below n past))
    ]
    in
    let gone : times n (set lists at rest) ≡ 0 =
    omega (
      arith,
      sum_by-set (times_in n) lists at rest [] in_lists,
      ap (times_in n) split,
      times_in-first n rest,
      h.apart.once n,
    ) in
    (below, gone)

pub AreListsOf-put : (heads next : List (Option ℕ)) (lists : List (List ℕ)) → AreListsOf heads next lists
    → (from to : ℕ) → from < length heads → to < length heads → (from ≡ to → ⊥) → get_or lists to [] ≡ []
    → AreListsOf (set (set heads to (get_or heads from None)) from None) next
    (set (set lists to (get_or lists from [])) from [])
AreListsOf-put heads next lists h from to place there apart empty =
    let in_lists : from < length lists = omega (arith, h.len) in
    let to_lists : to < length lists = omega (arith, h.len) in
    let len_heads : length (set heads to (get_or heads from None)) ≡ length heads =
    length-set heads to (get_or heads from None) in
    let len_lists : length (set lists to (get_or lists from [])) ≡ length lists =
    length-set lists to (get_or lists from []) in
    let moved : get_or (set lists to (get_or lists from [])) from [] ≡ get_or lists from [] =
    get_or-set_other lists to from (get_or lists from []) [] apart in
    let count : (q : ℕ) → times q (set (set lists to (get_or lists from [])) from []) ≡ times q lists = λ q.
    omega (
      arith,
      sum_by-set (times_in q) lists to (get_or lists from []) [] to_lists,
      sum_by-set (times_in q) (set lists to (get_or lists from [])) from [] [] (omega (arith, len_lists)),
      ap (times_in q) moved,
      ap (times_in q) empty,
    ) in
    record {
      len = length-set (set lists to (get_or lists from [])) from [] ∙ len_lists ∙ h.len
          ∙ sym (length-set (set heads to (get_or heads from None)) from None ∙ len_heads);
      each = λ k within.
          let inside : k < length heads =
          omega (arith, length-set (set heads to (get_or heads from None)) from None, len_heads) in
          elim (cases_eq k from) [
            | inl here ↦
                rw (
                  here,
                  get_or-set_same (set heads to (get_or heads from None)) from None None
                      (omega (arith, len_heads)),
                  get_or-set_same (set lists to (get_or lists from [])) from [] [] (omega (arith, len_lists)),
                ) refl
            | inr other ↦
                rw (
                  get_or-set_other (set heads to (get_or heads from None)) from k None None other,
                  get_or-set_other (set lists to (get_or lists from [])) from k [] [] other,
                ) (elim (cases_eq k to) [
                  | inl at_to ↦
                      rw (
                        at_to,
                        get_or-set_same heads to (get_or heads from None) None there,
                        get_or-set_same lists to (get_or lists from []) [] to_lists,
                      ) (h.each from place)
                  | inr at_other ↦
                      rw (
                        get_or-set_other heads to k (get_or heads from None) None at_other,
                        get_or-set_other lists to k (get_or lists from []) [] at_other,
                      ) (h.each k inside)
                ])
          ];
      apart = record {
        once = λ q. omega (arith, count q, h.apart.once q);
        below = λ q past. omega (arith, count q, h.apart.below q past);
      };
    }

times-empty : (q k : ℕ) → times q (replicate k []) ≡ 0
times-empty q k = sum_by-replicate (times_in q) k [] ∙ omega arith

pub AreListsOf-more_lists : (heads next : List (Option ℕ)) (lists : List (List ℕ)) → AreListsOf heads next lists
    → (k : ℕ) → AreListsOf (heads ++ replicate k None) next (lists ++ replicate k [])
AreListsOf-more_lists heads next lists h k = record {
  len = length-append lists (replicate k [])
      ∙ omega (
        arith,
        h.len,
        length-replicate {A = List ℕ} k [],
        length-replicate {A = Option ℕ} k None,
        length-append heads (replicate k None),
      );
  each = λ at within.
      elim (cases_lt at (length heads)) [
        | inl old ↦
            rw (
              get_or_append_left heads (replicate k None) None at old,
              get_or_append_left lists (replicate k []) [] at (omega (arith, h.len)),
            ) (h.each at old)
        | inr new ↦
            let place : at - length heads < k =
            omega (arith, length-append heads (replicate k None), length-replicate {A = Option ℕ} k None) in
            rw (
              get_or-append_right heads (replicate k None) (length heads) at None refl new,
              get_or-append_right lists (replicate k []) (length heads) at [] h.len new,
              get_or-replicate {A = Option ℕ} k (at - length heads) None None place,
              get_or-replicate {A = List ℕ} k (at - length heads) [] [] place,
            ) refl
      ];
  apart = record {
    once = λ q. omega (arith, sum_by-append (times_in q) lists (replicate k []), times-empty q k, h.apart.once q);
    below = λ q past. omega (
      arith,
      sum_by-append (times_in q) lists (replicate k []),
      times-empty q k,
      h.apart.below q past,
    );
  };
}

list_in_more : (next more : List (Option ℕ)) (start : Option ℕ) (xs : List ℕ)
    → ((q : ℕ) → length next ≤ q → times_in q xs ≡ 0) → IsListFrom next start xs → IsListFrom (next ++ more) start xs
list_in_more next more start [] below h = h
list_in_more next more start (x ∷ xs) below h =
    let place : x < length next =
    elim (cases_lt x (length next)) [
      | inl within ↦ within
      | inr past ↦ absurd (omega (arith, below x past, times_in-first x xs))
    ]
    in
    let rest : (q : ℕ) → length next ≤ q → times_in q xs ≡ 0 =
    λ q past. omega (arith, below q past, times_in-cons q x xs) in (
      h.0,
      list_in_more next more (get_or (next ++ more) x None) xs rest
          (rw (get_or_append_left next more None x place) h.1),
    )

pub AreListsOf-more_nodes : (heads next more : List (Option ℕ)) (lists : List (List ℕ)) → AreListsOf heads next lists
    → AreListsOf heads (next ++ more) lists
AreListsOf-more_nodes heads next more lists h = record {
  len = h.len;
  each = λ at within.
      list_in_more next more (get_or heads at None) (get_or lists at [])
      (λ q past. omega
      (arith, h.apart.below q past, get_or-le-sum_by (times_in q) lists at [] (omega (arith, h.len))))
      (h.each at within);
  apart = record {
    once = h.apart.once;
    below = λ q past. h.apart.below q (omega (arith, length-append next more));
  };
}

-- what the fields show
pub keeps : (heads next : List (Option ℕ)) (lists : List (List ℕ)) → AreListsOf heads next lists
    → AreListsOf heads next (lists_from heads next)
keeps heads next lists h = rw (lists_are heads next lists h) h

pub gives : (heads next : List (Option ℕ)) (lists : List (List ℕ)) (n : ℕ) → AreListsOf heads next lists
    → length next ≡ n
    → ◌≡◌ {A = WatchLists} (record { nodes = length next; lists = lists_from heads next })
    (record { nodes = n; lists = lists })
gives heads next lists n h nodes = rw (lists_are heads next lists h, nodes) refl

module _ (heads next : List (Option ℕ)) (now : WatchLists)
    (view : ◌≡◌ {A = WatchLists} (record { nodes = length next; lists = lists_from heads next }) now)
    (h : AreListsOf heads next (lists_from heads next)) where
  pub shown : AreListsOf heads next now.lists
  shown = subst (λ (t : WatchLists). AreListsOf heads next t.lists) view h

  pub nodes_shown : length next ≡ now.nodes
  nodes_shown = ap (λ (t : WatchLists). t.nodes) view

  pub pushed : (at n : ℕ) (x : Option ℕ) → at < length now.lists → n < now.nodes → times n now.lists ≡ 0
      → x ≡ get_or heads at None
      → AreListsOf (set heads at (Some n)) (set next n x) (set now.lists at (n ∷ get_or now.lists at []))
  pushed at n x place below nowhere here =
      let inside : at < length heads = omega (arith, shown.len) in
      rw here
      (AreListsOf-push heads next now.lists shown at n inside (omega (arith, nodes_shown)) nowhere)

  pub put_there : (from to : ℕ) (x : Option ℕ) → from < length now.lists → to < length now.lists → (from ≡ to → ⊥)
      → get_or now.lists to [] ≡ [] → x ≡ get_or heads from None
      → AreListsOf (set (set heads to x) from None) next (set (set now.lists to (get_or now.lists from [])) from [])
  put_there from to x place there apart empty here =
      let inside : from < length heads = omega (arith, shown.len) in
      rw here
      (AreListsOf-put heads next now.lists shown from to inside (omega (arith, shown.len)) apart empty)

  -- a list that begins at a number has it in front
  pub list_splits : (at n : ℕ) → at < length now.lists → Some n ≡ get_or heads at None
      → get_or now.lists at [] ≡ n ∷ drop 1 (get_or now.lists at [])
  list_splits at n place here =
      let inside : at < length heads = omega (arith, shown.len) in
      first_of next (get_or heads at None) (get_or now.lists at []) n (shown.each at inside)
      (sym here)
    where
      first_of : (next : List (Option ℕ)) (start : Option ℕ) (xs : List ℕ) (n : ℕ) → IsListFrom next start xs
          → start ≡ Some n → xs ≡ n ∷ drop 1 xs
      first_of next start [] n h is = absurd (none-some n (sym h ∙ is))
      first_of next start (x ∷ xs) n h is = ap (λ y. y ∷ xs) (same_Some x n (sym h.0 ∙ is))

  pub list_ends : (at : ℕ) (x : Option ℕ) → at < length now.lists → x ≡ get_or heads at None → x ≡ None
      → get_or now.lists at [] ≡ []
  list_ends at x place here none =
      let inside : at < length heads = omega (arith, shown.len) in
      nothing_of next (get_or heads at None) (get_or now.lists at []) (shown.each at inside)
      (sym here ∙ none)
    where
      nothing_of : (next : List (Option ℕ)) (start : Option ℕ) (xs : List ℕ) → IsListFrom next start xs → start ≡ None
          → xs ≡ []
      nothing_of next start [] h is = refl
      nothing_of next start (x ∷ xs) h is = absurd (none-some x (sym is ∙ h.0))

  pub popped : (at n : ℕ) (x : Option ℕ) → at < length now.lists → Some n ≡ get_or heads at None
      → x ≡ get_or next n None → AreListsOf (set heads at x) next (set now.lists at (drop 1 (get_or now.lists at [])))
  popped at n x place here behind =
      let split = list_splits at n place here in
      let inside : at < length heads = omega (arith, shown.len) in
      let nowhere = popped_nowhere heads next now.lists shown at n (drop 1 (get_or now.lists at [])) inside split in
      rw behind
      (AreListsOf-pop heads next now.lists shown at n (drop 1 (get_or now.lists at [])) inside split)

  pub popped_free : (at n : ℕ) → at < length now.lists → Some n ≡ get_or heads at None
      → (n < length next) × (times n (set now.lists at (drop 1 (get_or now.lists at []))) ≡ 0)
  popped_free at n place here =
      popped_nowhere heads next now.lists shown at n (drop 1 (get_or now.lists at [])) (omega (arith, shown.len))
      (list_splits at n place here)

  pub more_lists : (n : ℕ)
      → AreListsOf (heads ++ replicate (n - length heads) None) next
      (now.lists ++ replicate (n - length now.lists) [])
  more_lists n = rw shown.len
      (AreListsOf-more_lists heads next now.lists shown (n - length heads))

  pub more_nodes : (n : ℕ) → AreListsOf heads (next ++ replicate (n - length next) None) now.lists
  more_nodes n =
      (AreListsOf-more_nodes heads next (replicate (n - length next) None) now.lists shown)
