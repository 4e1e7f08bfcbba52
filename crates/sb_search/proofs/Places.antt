-- Places of atoms, where a trail gets more of them.
use Rattle.sb_search.proofs.Words.{◌≡◌, ℕ, zero, suc, ◌+◌, ◌<◌, ◌≤◌, Bool, true, false, is_none, ltb, length, take, drop, get_or, List, [], ◌∷◌, max, Option, Some, None, Ok, refl, sym, ◌∙◌, ap, subst, arith, inl, inr, list_all, and_parts, ltb-true, ltb-false, cases_Bool, take_more, same_Some, Lit, false≢true, all_weaker, all_push, is_among, all_among, Kept, KeptClause, Assignments, held, current_level, State, has_room_for, are_reserved, have_places, Widens, are_true, has_value, slice_get, le-max_left, lt-ltb, take_all, drop_more, drop_all, slice_get_within, get_or_from_slice_get, slice_get-get_or, is_some, value_of, is_reserved, IsNext, IsNextWanted, Next}
use Rattle.sb_search.specs.declared.stage.Next.TheVariants as next

higher_bound : (n old new : ℕ) → old ≤ new → ltb n old ≡ true → ltb n new ≡ true
higher_bound n old new le h = lt-ltb n new (omega (arith, ltb-true n old h, le))

pub more_places : (old new : ℕ) (atoms : List ℕ) → old ≤ new → have_places old atoms ≡ true
    → have_places new atoms ≡ true
more_places old new atoms le h = all_weaker (λ atom. ltb atom old) (λ atom. ltb atom new)
    (λ atom k. higher_bound atom old new le k) atoms h

pub more_reserved : (old new : ℕ) (ls : List Lit) → old ≤ new → are_reserved old ls ≡ true → are_reserved new ls ≡ true
more_reserved old new ls le h = all_weaker (λ l. ltb l.atom old) (λ l. ltb l.atom new)
    (λ l k. higher_bound l.atom old new le k) ls h

reserved_clause : (old new : ℕ) (clause : Option KeptClause) → old ≤ new → is_reserved old clause ≡ true
    → is_reserved new clause ≡ true
reserved_clause old new None le h = refl
reserved_clause old new (Some clause) le h = more_reserved old new clause.literals le h

pub more_room : (old new : ℕ) (kept : Kept) → old ≤ new → has_room_for old kept ≡ true → has_room_for new kept ≡ true
more_room old new kept le h =
    all_weaker (is_reserved old) (is_reserved new) (λ clause k. reserved_clause old new clause le k) kept h

-- places that are made, and others behind them
pub widens_reserved : (old new : State) (atoms : ℕ)
    → new ≡ record old { trail = record old.trail { reserved = max old.trail.reserved atoms } } → Widens old new
widens_reserved old new atoms is = subst (λ (s : State). Widens old s) (sym is) (record {
  kept = refl;
  literals = refl;
  reserved = le-max_left old.trail.reserved atoms;
})

pub widens_both : (old middle new : State) → Widens old middle → Widens middle new → Widens old new
widens_both old middle new h k = record {
  kept = k.kept ∙ h.kept;
  literals = k.literals ∙ h.literals;
  reserved = omega (arith, h.reserved, k.reserved);
}

-- turns of loops over atoms
pub reserved_turn : (old new : ℕ) (ls : List Lit) (i : ℕ) (d : Lit) → i < length ls → old ≤ new
    → are_reserved old (take i ls) ≡ true → (get_or ls i d).atom < new → are_reserved new (take (i + 1) ls) ≡ true
reserved_turn old new ls i d within le h here =
    rw (take_more ls i d within)
    (all_push (λ l. ltb l.atom new) (take i ls) (get_or ls i d) (more_reserved old new (take i ls) le h)
    (lt-ltb (get_or ls i d).atom new here))

pub places_turn : (old new : ℕ) (atoms : List ℕ) (i atom : ℕ) → Some atom ≡ slice_get atoms i → old ≤ new
    → have_places old (take i atoms) ≡ true → atom < new → have_places new (take (i + 1) atoms) ≡ true
places_turn old new atoms i atom there le h here =
    rw (
      take_more atoms i atom (slice_get_within atoms i atom (sym there)),
      get_or_from_slice_get atoms i atom atom (sym there),
    )
    (all_push (λ a. ltb a new) (take i atoms) atom (more_places old new (take i atoms) le h) (lt-ltb atom new here))

past : (atoms : List ℕ) (i : ℕ) → None ≡ slice_get atoms i → length atoms ≤ i
past atoms i none =
    elim (cases_Bool (ltb i (length atoms))) [
      | inl within ↦ absurd (Prim.cc (none ∙ slice_get-get_or atoms i 0 (ltb-true i (length atoms) within)))
      | inr over ↦ omega (arith, ltb-false i (length atoms) over)
    ]

pub places_end : (r : ℕ) (atoms : List ℕ) (i : ℕ) → None ≡ slice_get atoms i → have_places r (take i atoms) ≡ true
    → have_places r atoms ≡ true
places_end r atoms i none h = rw (take_all i atoms (past atoms i none)) at h

pub open_turn : (p : ℕ → Bool) (atoms : List ℕ) (i atom : ℕ) → Some atom ≡ slice_get atoms i → p atom ≡ true
    → list_all p (drop i atoms) ≡ list_all p (drop (i + 1) atoms)
open_turn p atoms i atom there here =
    rw (
      drop_more atoms i atom (slice_get_within atoms i atom (sym there)),
      get_or_from_slice_get atoms i atom atom (sym there),
      here,
    ) refl

pub open_end : (p : ℕ → Bool) (atoms : List ℕ) (i : ℕ) → None ≡ slice_get atoms i → list_all p (drop i atoms) ≡ true
open_end p atoms i none = rw (drop_all i atoms (past atoms i none)) refl

pub no_value : (r v : Option Bool) → is_some r ≡ false → is_none r ≡ is_none v → v ≡ None
no_value r None h k = refl
no_value None (Some x) h k = absurd (false≢true (sym k))
no_value (Some y) (Some x) h k = absurd (false≢true (sym h))

-- an assumption without a value is decided next
pub given_open : (trail : Assignments) (l : Lit) → value_of trail.literals l.atom ≡ None → (wanted : List ℕ)
    (assumptions : List Lit) (levels : ℕ) (search : State) → search.trail ≡ trail
    → current_level trail.literals ≤ levels → is_among assumptions l ≡ true
    → are_reserved trail.reserved assumptions ≡ true → IsNext wanted assumptions levels search (Ok (next.Assume l))
given_open trail l none wanted assumptions levels search same le among reserved =
    subst (λ (t : Assignments). (current_level t.literals ≤ levels) × (is_among assumptions l ≡ true)
    × (value_of t.literals l.atom ≡ None) × (l.atom < t.reserved)) (sym same) (
      le,
      among,
      none,
      ltb-true l.atom trail.reserved (all_among (λ m. ltb m.atom trail.reserved) assumptions l reserved among),
    )

found_at : (p : ℕ → Bool) (xs : List ℕ) (i y : ℕ) → slice_get xs i ≡ Some y → list_all p xs ≡ true → p y ≡ true
found_at p [] i y h k = absurd (Prim.cc (h))
found_at p (x ∷ xs) zero y h k = ap p (sym (same_Some x y h)) ∙ (and_parts (p x) (list_all p xs) k).0
found_at p (x ∷ xs) (suc i) y h k = found_at p xs i y h (and_parts (p x) (list_all p xs) k).1

-- a wanted atom without a value is decided next, if there is one
pub free_next : (trail : Assignments) (wanted : List ℕ) (o : Option ℕ) → IsNextWanted wanted trail.literals o
    → (assumptions : List Lit) (levels : ℕ) (search : State) → search.trail ≡ trail
    → are_true (held trail.literals) assumptions ≡ true → have_places trail.reserved wanted ≡ true
    → IsNext wanted assumptions levels search (Ok (next.Free o))
free_next trail wanted None all assumptions levels search same given places =
    subst (λ (t : Assignments). (list_all (has_value t.literals) wanted ≡ true)
    × (are_true (held t.literals) assumptions ≡ true)) (sym same) (all, given)
free_next trail wanted (Some atom) there assumptions levels search same given places =
    subst (λ (t : Assignments). (value_of t.literals atom ≡ None) × (atom < t.reserved)
    × (are_true (held t.literals) assumptions ≡ true)) (sym same) (
      there.0,
      ltb-true atom trail.reserved (found_at (λ a. ltb a trail.reserved) wanted there.1.0 atom there.1.1 places),
      given,
    )

-- what is next, where it is no assumption
pub next_free : (wanted : List ℕ) (assumptions : List Lit) (levels : ℕ) (search : State) (n : Next) (o p : Option ℕ)
    → n ≡ next.Free o → o ≡ p → IsNext wanted assumptions levels search (Ok n)
    → IsNext wanted assumptions levels search (Ok (next.Free p))
next_free wanted assumptions levels search n o p is same h =
    subst (λ (x : Next). IsNext wanted assumptions levels search (Ok x))
    (is ∙ ap (λ (q : Option ℕ). next.Free q) same) h

-- all assumptions are true where one is decided, or none is left
pub given_free : (wanted : List ℕ) (assumptions : List Lit) (levels : ℕ) (search : State) (o : Option ℕ)
    → IsNext wanted assumptions levels search (Ok (next.Free o))
    → are_true (held search.trail.literals) assumptions ≡ true
given_free wanted assumptions levels search None h = h.1
given_free wanted assumptions levels search (Some atom) h = h.2

pub waiting_open : (trail : Assignments) (wanted : List ℕ) (atom : ℕ)
    → (value_of trail.literals atom ≡ None) × (atom < trail.reserved) → (assumptions : List Lit) (levels : ℕ)
    (search : State) → search.trail ≡ trail → are_true (held trail.literals) assumptions ≡ true
    → have_places trail.reserved wanted ≡ true → IsNext wanted assumptions levels search (Ok (next.Free (Some atom)))
waiting_open trail wanted atom there assumptions levels search same given places =
    subst (λ (t : Assignments). (value_of t.literals atom ≡ None) × (atom < t.reserved)
    × (are_true (held t.literals) assumptions ≡ true)) (sym same) (there.0, there.1, given)
