-- A heap of atoms and their places, when two places are changed for each other and when atoms come.
use Rattle.std.proofs.Common.{◌≡◌, ◌≢◌, ℕ, ◌+◌, ◌-◌, ◌<◌, ◌≤◌, Bool, true, false, not, ltb, List, [], ◌∷◌, ◌++◌, length, get_or, set, take, drop, replicate, refl, sym, ◌∙◌, ap, inl, inr, arith}
use Rattle.std.specs.List.{list_all}
use Rattle.std.proofs.lemmas.Bool.{cases_eq, cases_lt, lt-ltb, le-ltb}
use Rattle.std.proofs.lemmas.List.{length-set, length-map, get_or-set_same, get_or-set_other, get_or-map, same_lists, map-append, append_assoc, replicate-append-replicate, set-get_or, take_at}
use Rattle.sb_activity.specs.Places.{Undoes, AreInverse, places_swapped}
use Rattle.sb_activity.specs.Waiting.{are_first}

-- a table with two numbers written,
abbrev twice : List ℕ → ℕ → ℕ → ℕ → ℕ → List ℕ
twice table a j b i = set (set table a j) b i

length_twice : (table : List ℕ) (a j b i : ℕ) → length (twice table a j b i) ≡ length table
length_twice table a j b i = length-set (set table a j) b i ∙ length-set table a j

-- read where the second one was,
at_second : (table : List ℕ) (a j b i k : ℕ) → k ≡ b → b < length table → get_or (twice table a j b i) k 0 ≡ i
at_second table a j b i k is within =
    rw is (get_or-set_same (set table a j) b i 0 (omega (arith, within, length-set table a j)))

-- where the first one was,
at_first : (table : List ℕ) (a j b i k : ℕ) → k ≡ a → a ≢ b → a < length table → get_or (twice table a j b i) k 0 ≡ j
at_first table a j b i k is differ within =
    rw is (get_or-set_other (set table a j) b a i 0 differ ∙ get_or-set_same table a j 0 within)

-- and elsewhere
elsewhere : (table : List ℕ) (a j b i k : ℕ) → k ≢ a → k ≢ b → get_or (twice table a j b i) k 0 ≡ get_or table k 0
elsewhere table a j b i k not_a not_b =
    get_or-set_other (set table a j) b k i 0 not_b ∙ get_or-set_other table a k j 0 not_a

-- two numbers of the list that are equal stand at one place
one_place : (numbers table : List ℕ) (i k : ℕ) → Undoes numbers table → i < length numbers → k < length numbers
    → get_or numbers k 0 ≡ get_or numbers i 0 → k ≡ i
one_place numbers table i k h at_i at_k same =
    sym (h k at_k).1 ∙ ap (λ n. get_or table n 0) same ∙ (h i at_i).1

settled : (numbers table : List ℕ) (k m : ℕ) → get_or numbers k 0 ≡ m → m < length table → get_or table m 0 ≡ k
    → (get_or numbers k 0 < length table) × (get_or table (get_or numbers k 0) 0 ≡ k)
settled numbers table k m is within there = (rw is within, rw is there)

-- who is among the first, by place
firsts : (count : ℕ) (places : List ℕ) (k : ℕ) (d : Bool) → k < length places
    → get_or (are_first count places) k d ≡ ltb (get_or places k 0) count
firsts count places k d within = get_or-map (λ place. ltb place count) places k 0 d within

-- an atom that is at neither of two places
neither : (heap places : List ℕ) (i k : ℕ) → AreInverse heap places → i < length heap → k < length places
    → k ≢ get_or heap i 0 → get_or places k 0 ≢ i
neither heap places i k h at_i within differ is = differ (sym (h.found k within).1 ∙ ap (λ n. get_or heap n 0) is)

same_test : (m n count many : ℕ) → m ≡ n → (n < count → n < many) → (n < many → n < count)
    → ltb m count ≡ ltb n many
same_test m n count many is up down =
    elim (cases_lt n count) [
      | inl below ↦ lt-ltb m count (omega (arith, is, below)) ∙ sym (lt-ltb n many (up below))
      | inr above ↦
          elim (cases_lt n many) [
            | inl low ↦ absurd (omega (arith, above, down low))
            | inr high ↦ le-ltb m count (omega (arith, is, above)) ∙ sym (le-ltb n many high)
          ]
    ]

-- two places among the first are changed for each other
pub first_swapped : (heap places : List ℕ) (i j count : ℕ) → AreInverse heap places → i < length heap
    → j < length heap → i < count → j < count
    → are_first count (places_swapped heap places i j) ≡ are_first count places
first_swapped heap places i j count h at_i at_j low_i low_j =
    let a = get_or heap i 0 in
    let b = get_or heap j 0 in
    let new = twice places a j b i in
    let wide : length new ≡ length places = length_twice places a j b i in
    same_lists (are_first count new) (are_first count places)
    (length-map new (λ place. ltb place count) ∙ (wide ∙ sym (length-map places (λ place. ltb place count))))
    (λ k d under.
    let within : k < length places = omega (arith, under, wide, length-map new (λ place. ltb place count)) in
    let at_new : get_or (are_first count new) k d ≡ ltb (get_or new k 0) count =
    firsts count new k d (omega (arith, wide, within)) in
    let at_old : get_or (are_first count places) k d ≡ ltb (get_or places k 0) count =
    firsts count places k d within in
    elim (cases_eq k b) [
      | inl is_b ↦
          at_new ∙ lt-ltb (get_or new k 0) count
          (omega (arith, low_i, at_second places a j b i k is_b (h.placed j at_j).0))
          ∙ sym (at_old ∙ lt-ltb (get_or places k 0) count
          (omega (arith, low_j, ap (λ n. get_or places n 0) is_b ∙ (h.placed j at_j).1)))
      | inr not_b ↦
          elim (cases_eq k a) [
            | inl is_a ↦
                at_new ∙ lt-ltb (get_or new k 0) count
                (omega (arith, low_j, at_first places a j b i k is_a (λ e. not_b (is_a ∙ e)) (h.placed i at_i).0))
                ∙ sym (at_old ∙ lt-ltb (get_or places k 0) count
                (omega (arith, low_i, ap (λ n. get_or places n 0) is_a ∙ (h.placed i at_i).1)))
            | inr not_a ↦
                at_new ∙ ap (λ n. ltb n count) (elsewhere places a j b i k not_a not_b) ∙ sym at_old
          ]
    ])

-- an atom behind the first is changed for the one that is next, and the first are one more
pub first_more : (heap places : List ℕ) (atom count : ℕ) → AreInverse heap places → atom < length places
    → count ≤ get_or places atom 0
    → are_first (count + 1) (places_swapped heap places (get_or places atom 0) count)
    ≡ set (are_first count places) atom true
first_more heap places atom count h there behind =
    let place = get_or places atom 0 in
    let at_place : place < length heap = (h.found atom there).0 in
    let at_count : count < length heap = omega (arith, behind, at_place) in
    let is_atom : get_or heap place 0 ≡ atom = (h.found atom there).1 in
    let a = get_or heap place 0 in
    let b = get_or heap count 0 in
    let new = twice places a count b place in
    let wide : length new ≡ length places = length_twice places a count b place in
    same_lists (are_first (count + 1) new) (set (are_first count places) atom true)
    (length-map new (λ n. ltb n (count + 1)) ∙ (wide ∙ sym (length-set (are_first count places) atom true
    ∙ length-map places (λ n. ltb n count))))
    (λ k d under.
    let within : k < length places = omega (arith, under, wide, length-map new (λ n. ltb n (count + 1))) in
    let at_new : get_or (are_first (count + 1) new) k d ≡ ltb (get_or new k 0) (count + 1) =
    firsts (count + 1) new k d (omega (arith, wide, within)) in
    elim (cases_eq k atom) [
      | inl is ↦
          let low : get_or new k 0 < count + 1 = elim (cases_eq a b) [
            | inl same ↦
                let one : place ≡ count = one_place heap places count place h.placed at_count at_place same in
                omega (arith, at_second places a count b place k (is ∙ sym is_atom ∙ same) (h.placed count at_count).0, one)
            | inr differ ↦
                omega (arith, at_first places a count b place k (is ∙ sym is_atom) differ (h.placed place at_place).0)
          ] in
          at_new ∙ lt-ltb (get_or new k 0) (count + 1) low
          ∙ sym (rw is (get_or-set_same (are_first count places) atom true d
          (omega (arith, there, length-map places (λ n. ltb n count)))))
      | inr not_atom ↦
          let at_old : get_or (set (are_first count places) atom true) k d ≡ ltb (get_or places k 0) count =
          get_or-set_other (are_first count places) atom k true d not_atom ∙ firsts count places k d within in
          let not_a : k ≢ a = λ e. not_atom (e ∙ is_atom) in
          elim (cases_eq k b) [
            | inl is_b ↦
                let far : place ≢ count = λ e. not_atom (is_b ∙ (ap (λ n. get_or heap n 0) (sym e) ∙ is_atom)) in
                at_new ∙ le-ltb (get_or new k 0) (count + 1)
                (omega (arith, behind, far, at_second places a count b place k is_b (h.placed count at_count).0))
                ∙ sym (at_old ∙ le-ltb (get_or places k 0) count
                (omega (arith, ap (λ n. get_or places n 0) is_b ∙ (h.placed count at_count).1)))
            | inr not_b ↦
                let off : get_or places k 0 ≢ count = neither heap places count k h at_count within not_b in
                at_new ∙ same_test (get_or new k 0) (get_or places k 0) (count + 1) count
                (elsewhere places a count b place k not_a not_b) (λ low. omega (arith, low, off))
                (λ low. omega (arith, low)) ∙ sym at_old
          ]
    ])

-- the first of all is changed for the last of the first, and the first are one less
pub first_less : (heap places : List ℕ) (last : ℕ) → AreInverse heap places → last < length heap
    → are_first last (places_swapped heap places 0 last)
    ≡ set (are_first (last + 1) places) (get_or heap 0 0) false
first_less heap places last h at_last =
    let at_top : 0 < length heap = omega (arith, at_last) in
    let a = get_or heap 0 0 in
    let b = get_or heap last 0 in
    let new = twice places a last b 0 in
    let wide : length new ≡ length places = length_twice places a last b 0 in
    same_lists (are_first last new) (set (are_first (last + 1) places) a false)
    (length-map new (λ n. ltb n last) ∙ (wide ∙ sym (length-set (are_first (last + 1) places) a false
    ∙ length-map places (λ n. ltb n (last + 1)))))
    (λ k d under.
    let within : k < length places = omega (arith, under, wide, length-map new (λ n. ltb n last)) in
    let at_new : get_or (are_first last new) k d ≡ ltb (get_or new k 0) last =
    firsts last new k d (omega (arith, wide, within)) in
    elim (cases_eq k a) [
      | inl is_a ↦
          let high : last ≤ get_or new k 0 = elim (cases_eq a b) [
            | inl same ↦
                let one : 0 ≡ last = one_place heap places last 0 h.placed at_last at_top same in
                omega (arith, one)
            | inr differ ↦
                omega (arith, at_first places a last b 0 k is_a differ (h.placed 0 at_top).0)
          ] in
          at_new ∙ le-ltb (get_or new k 0) last high
          ∙ sym (rw is_a (get_or-set_same (are_first (last + 1) places) a false d
          (omega (arith, (h.placed 0 at_top).0, length-map places (λ n. ltb n (last + 1))))))
      | inr not_a ↦
          let at_old : get_or (set (are_first (last + 1) places) a false) k d ≡ ltb (get_or places k 0) (last + 1) =
          get_or-set_other (are_first (last + 1) places) a k false d not_a ∙ firsts (last + 1) places k d within in
          elim (cases_eq k b) [
            | inl is_b ↦
                let far : 0 ≢ last = λ e. not_a (is_b ∙ ap (λ n. get_or heap n 0) (sym e)) in
                at_new ∙ lt-ltb (get_or new k 0) last
                (omega (arith, far, at_second places a last b 0 k is_b (h.placed last at_last).0))
                ∙ sym (at_old ∙ lt-ltb (get_or places k 0) (last + 1)
                (omega (arith, ap (λ n. get_or places n 0) is_b ∙ (h.placed last at_last).1)))
            | inr not_b ↦
                let off : get_or places k 0 ≢ last = neither heap places last k h at_last within not_b in
                at_new ∙ same_test (get_or new k 0) (get_or places k 0) last (last + 1)
                (elsewhere places a last b 0 k not_a not_b) (λ low. omega (arith, low))
                (λ low. omega (arith, low, off)) ∙ sym at_old
          ]
    ])

-- none is among the first where there are none
pub none_first : (places : List ℕ) → list_all not (are_first 0 places) ≡ true
none_first [] = refl
none_first (place ∷ places) = rw (le-ltb place 0 (omega arith)) (none_first places)

-- is not among the first
pub first_pushed : (places : List ℕ) (n count m : ℕ) (olds : List Bool) → count ≤ n
    → are_first count places ≡ olds ++ replicate m false
    → are_first count (places ++ n ∷ []) ≡ olds ++ replicate (m + 1) false
first_pushed places n count m olds behind so_far =
    map-append (λ place. ltb place count) places (n ∷ [])
    ∙ rw (le-ltb n count behind, so_far) (append_assoc olds (replicate m false) (false ∷ [])
    ∙ ap (λ (xs : List Bool). olds ++ xs) (replicate-append-replicate m 1 false))

-- an atom that is among the first
pub first_already : (places : List ℕ) (atom count : ℕ) → atom < length places → get_or places atom 0 < count
    → set (are_first count places) atom true ≡ are_first count places
first_already places atom count there low =
    ap (set (are_first count places) atom) (sym (firsts count places atom false there ∙ lt-ltb (get_or places atom 0) count low))
    ∙ set-get_or (are_first count places) atom false

pub is_among : (places : List ℕ) (atom count : ℕ) → atom < length places → get_or places atom 0 < count
    → get_or (are_first count places) atom false ≡ true
is_among places atom count there low =
    firsts count places atom false there ∙ lt-ltb (get_or places atom 0) count low

-- a list that was lent and came back with this one in its place
pub lent : (news olds : List ℕ) (n : ℕ) → length news ≡ n → take n (news ++ drop (length news) olds) ≡ news
lent news olds n same = take_at news (drop (length news) olds) n same

pub length_swapped : (heap places : List ℕ) (i j : ℕ) → length (places_swapped heap places i j) ≡ length places
length_swapped heap places i j = length_twice places (get_or heap i 0) j (get_or heap j 0) i

-- an atom waits,
pub inserted : (heap places middle after : List ℕ) (atom place waiting : ℕ) → AreInverse heap places
    → atom < length places → place ≡ get_or places atom 0 → waiting ≤ place
    → middle ≡ places_swapped heap places place waiting
    → are_first (waiting + 1) after ≡ are_first (waiting + 1) middle
    → are_first (waiting + 1) after ≡ set (are_first waiting places) atom true
inserted heap places middle after atom place waiting h there is behind swapped same =
    same ∙ ap (are_first (waiting + 1)) (swapped ∙ ap (λ n. places_swapped heap places n waiting) is)
    ∙ first_more heap places atom waiting h there (omega (arith, is, behind))

-- the first one waits,
pub first_waits : (heap places : List ℕ) (atom waiting : ℕ) → AreInverse heap places → waiting ≤ length heap
    → waiting ≢ 0 → atom ≡ get_or heap 0 0 → get_or (are_first waiting places) atom false ≡ true
first_waits heap places atom waiting h within some is =
    let top : 0 < length heap = omega (arith, within, some) in
    is_among places atom waiting (omega (arith, is, (h.placed 0 top).0))
    (omega (arith, some, ap (λ n. get_or places n 0) is ∙ (h.placed 0 top).1))

-- and then does no more
pub popped : (heap places middle after : List ℕ) (atom waiting : ℕ) → AreInverse heap places
    → waiting ≤ length heap → waiting ≢ 0 → atom ≡ get_or heap 0 0
    → middle ≡ places_swapped heap places 0 (waiting - 1)
    → are_first (waiting - 1) after ≡ are_first (waiting - 1) middle
    → (get_or (are_first waiting places) atom false ≡ true)
    × (are_first (waiting - 1) after ≡ set (are_first waiting places) atom false)
popped heap places middle after atom waiting h within some is swapped same =
    let one : waiting - 1 + 1 ≡ waiting = omega (arith, some) in (
      first_waits heap places atom waiting h within some is,
      same ∙ ap (are_first (waiting - 1)) swapped ∙ (first_less heap places (waiting - 1) h (omega (arith, within, some))
          ∙ (ap (λ n. set (are_first n places) (get_or heap 0 0) false) one
          ∙ ap (λ n. set (are_first waiting places) n false) (sym is))),
    )
