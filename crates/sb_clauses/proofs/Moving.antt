-- Numbers that are taken off one list, and put on another.
use Rattle.std.proofs.Common.{◌≡◌, ◌≢◌, ℕ, ◌+◌, ◌<◌, ◌≤◌, cond, eqb, List, [], ◌∷◌, length, get_or, set, drop, Some, None, refl, sym, ◌∙◌, ap, inl, inr, arith}
use Rattle.std.specs.List.{slice_get}
use Rattle.std.proofs.lemmas.Bool.{cases_eq, cases_lt, eq-eqb, ne_eqb}
use Rattle.std.proofs.lemmas.Option.{same_Some, none-some}
use Rattle.std.proofs.lemmas.List.{length-set, get_or-set_same, get_or-set_other, get_or_past, set-get_or}
use Rattle.std.proofs.lemmas.List.Sums.{sum_by-set, get_or-le-sum_by}
use Rattle.sb_clauses.specs.WatchLists.{WatchLists, times_in, times, IsPoured}
use Rattle.sb_clauses.specs.Watching.{stands}
use Rattle.sb_clauses.proofs.ListLemmas.{times_in-cons, times_in-first, times_in-other}

abbrev pub list_at : List (List ℕ) → ℕ → List ℕ
list_at lists l = get_or lists l []

abbrev pub pushed : List (List ℕ) → ℕ → ℕ → List (List ℕ)
pushed lists to n = set lists to (n ∷ list_at lists to)

abbrev pub popped : List (List ℕ) → ℕ → List (List ℕ)
popped lists from = set lists from (drop 1 (list_at lists from))

pub first_splits : (xs : List ℕ) (n : ℕ) → Some n ≡ slice_get xs 0 → xs ≡ n ∷ drop 1 xs
first_splits [] n h = absurd (none-some n (sym h))
first_splits (x ∷ xs) n h = ap (λ y. y ∷ xs) (same_Some x n (sym h))

pub ends_empty : (xs : List ℕ) → None ≡ slice_get xs 0 → xs ≡ []
ends_empty [] h = refl
ends_empty (x ∷ xs) h = absurd (none-some x h)

pub part_le : (lists : List (List ℕ)) (q l : ℕ) → times_in q (list_at lists l) ≤ times q lists
part_le lists q l =
    elim (cases_lt l (length lists)) [
      | inl within ↦ get_or-le-sum_by (times_in q) lists l [] within
      | inr past ↦ rw (get_or_past lists l [] past) (omega arith)
    ]

module _ (lists : List (List ℕ)) (to n : ℕ) (inside : to < length lists) where
  pub pushed_at : list_at (pushed lists to n) to ≡ n ∷ list_at lists to
  pushed_at = get_or-set_same lists to (n ∷ list_at lists to) [] inside

  pub pushed_off : (l : ℕ) → l ≢ to → list_at (pushed lists to n) l ≡ list_at lists l
  pushed_off l other = get_or-set_other lists to l (n ∷ list_at lists to) [] other

  pub pushed_other : (q : ℕ) → q ≢ n → (l : ℕ)
      → times_in q (list_at (pushed lists to n) l) ≡ times_in q (list_at lists l)
  pushed_other q apart l =
      elim (cases_eq l to) [
        | inl here ↦ rw (here, pushed_at) (times_in-other q n (list_at lists to) (λ same. apart (sym same)))
        | inr other ↦ ap (times_in q) (pushed_off l other)
      ]

  pub pushed_self : times n lists ≡ 0 → (l : ℕ) → times_in n (list_at (pushed lists to n) l) ≡ stands to l
  pushed_self nowhere l =
      elim (cases_eq to l) [
        | inl here ↦
            let free : times_in n (list_at lists l) ≡ 0 = omega (arith, nowhere, part_le lists n l) in
            rw (eq-eqb to l here)
            (rw (sym here, pushed_at) (omega (arith, times_in-first n (list_at lists to), rw (sym here) at free)))
        | inr other ↦
            rw (ne_eqb to l other)
            (rw (pushed_off l (λ same. other (sym same))) (omega (arith, nowhere, part_le lists n l)))
      ]

  pub pushed_times : (q : ℕ) → times q (pushed lists to n) ≡ times q lists + cond (eqb n q) 1 0
  pushed_times q = omega (
    arith,
    sum_by-set (times_in q) lists to (n ∷ list_at lists to) [] inside,
    times_in-cons q n (list_at lists to),
  )

module _ (lists : List (List ℕ)) (from n : ℕ) (inside : from < length lists)
    (first : Some n ≡ slice_get (list_at lists from) 0) where
  pub popped_at : list_at (popped lists from) from ≡ drop 1 (list_at lists from)
  popped_at = get_or-set_same lists from (drop 1 (list_at lists from)) [] inside

  pub popped_off : (l : ℕ) → l ≢ from → list_at (popped lists from) l ≡ list_at lists l
  popped_off l other = get_or-set_other lists from l (drop 1 (list_at lists from)) [] other

  pub splits : list_at lists from ≡ n ∷ drop 1 (list_at lists from)
  splits = first_splits (list_at lists from) n first

  pub popped_in : (q : ℕ)
      → times_in q (list_at lists from) ≡ cond (eqb n q) 1 0 + times_in q (drop 1 (list_at lists from))
  popped_in q = ap (times_in q) splits ∙ times_in-cons q n (drop 1 (list_at lists from))

  pub stood : 1 ≤ times_in n (list_at lists from)
  stood = omega (arith, rw (eq-eqb n n refl) at (popped_in n))

  pub popped_other : (q : ℕ) → q ≢ n → (l : ℕ)
      → times_in q (list_at (popped lists from) l) ≡ times_in q (list_at lists l)
  popped_other q apart l =
      elim (cases_eq l from) [
        | inl here ↦ rw (here, popped_at) (omega (arith, rw (ne_eqb n q (λ same. apart (sym same))) at (popped_in q)))
        | inr other ↦ ap (times_in q) (popped_off l other)
      ]

  pub popped_times : (q : ℕ) → times q (popped lists from) + cond (eqb n q) 1 0 ≡ times q lists
  popped_times q = omega (
    arith,
    sum_by-set (times_in q) lists from (drop 1 (list_at lists from)) [] inside,
    popped_in q,
  )

  pub popped_shorter : length (list_at (popped lists from) from) < length (list_at lists from)
  popped_shorter = rw popped_at (omega (arith, ap length splits))

-- in the midst of pouring
pub record IsPouring (from to : ℕ) (old now : WatchLists) : Type 0 where
  pub nodes : now.nodes ≡ old.nodes
  pub len : length now.lists ≡ length old.lists
  pub counts : (n : ℕ) → times_in n (list_at now.lists to) + times_in n (list_at now.lists from)
      ≡ times_in n (list_at old.lists to) + times_in n (list_at old.lists from)
  pub others : (l : ℕ) → l ≢ from → l ≢ to → list_at now.lists l ≡ list_at old.lists l
  pub same_times : (n : ℕ) → times n now.lists ≡ times n old.lists

pub pouring_more : (from to n : ℕ) (old now : WatchLists) → from < length old.lists → to < length old.lists
    → (from ≡ to → ⊥)
    → Some n ≡ slice_get (list_at now.lists from) 0 → IsPouring from to old now
    → IsPouring from to old (record now { lists = pushed (popped now.lists from) to n })
pouring_more from to n old now a b apart first h =
    let inside : from < length now.lists = omega (arith, h.len) in
    let same_len : length (popped now.lists from) ≡ length now.lists =
    length-set now.lists from (drop 1 (list_at now.lists from)) in
    let there : to < length (popped now.lists from) = omega (arith, same_len, h.len) in
    record {
      nodes = h.nodes;
      len = length-set (popped now.lists from) to (n ∷ list_at (popped now.lists from) to) ∙ same_len ∙ h.len;
      counts = λ q.
          let at_to : times_in q (list_at (pushed (popped now.lists from) to n) to)
          ≡ cond (eqb n q) 1 0 + times_in q (list_at now.lists to) =
          ap (times_in q) (pushed_at (popped now.lists from) to n there)
          ∙ times_in-cons q n (list_at (popped now.lists from) to)
          ∙ ap (λ xs. cond (eqb n q) 1 0 + times_in q xs)
          (popped_off now.lists from n inside first to (λ same. apart (sym same)))
          in
          let at_from : times_in q (list_at (pushed (popped now.lists from) to n) from)
          ≡ times_in q (drop 1 (list_at now.lists from)) =
          ap (times_in q) (pushed_off (popped now.lists from) to n there from apart
          ∙ popped_at now.lists from n inside first)
          in
          omega (arith, at_to, at_from, popped_in now.lists from n inside first q, h.counts q);
      others = λ l off_from off_to. pushed_off (popped now.lists from) to n there l off_to
          ∙ popped_off now.lists from n inside first l off_from ∙ h.others l off_from off_to;
      same_times = λ q. omega (
        arith,
        pushed_times (popped now.lists from) to n there q,
        popped_times now.lists from n inside first q,
        h.same_times q,
      );
    }

pub poured : (from to : ℕ) (old now : WatchLists) → None ≡ slice_get (list_at now.lists from) 0
    → IsPouring from to old now
    → IsPoured from to old now
poured from to old now ends h =
    let empty : list_at now.lists from ≡ [] = ends_empty (list_at now.lists from) ends in
    record {
      nodes = h.nodes;
      len = h.len;
      empty = empty;
      counts = λ q. omega (arith, h.counts q, ap (times_in q) empty);
      others = h.others;
      same_times = h.same_times;
    }

pub popped_none : (lists : List (List ℕ)) (from : ℕ) → None ≡ slice_get (list_at lists from) 0
    → popped lists from ≡ lists
popped_none lists from ends =
    let empty : list_at lists from ≡ [] = ends_empty (list_at lists from) ends in
    ap (λ xs. set lists from (drop 1 xs)) empty ∙ ap (set lists from) (sym empty) ∙ set-get_or lists from []
