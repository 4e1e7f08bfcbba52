-- Clauses that are kept, with one behind them.
use Rattle.sb_refute.proofs.Words.{◌≡◌, ℕ, zero, suc, ◌<◌, ◌≤◌, ◌⊎◌, inl, inr, Bool, true, if◌then◌else◌, List, [], ◌∷◌, ◌++◌, length, map, take, slice_get, unwrap_or, Option, Some, None, refl, sym, ap, ◌∙◌, arith, and_from, and_parts, le-ltb, none-some, option_map, same_Some, some-none, Lit, literals_in, Kept, KeptClause, kept_at, stays_up_to, kept_up_to, are_reserved, has_room_for, is_reserved}

-- What stands in a list of options.

pub none-at : {A : Type 0} (n : ℕ) → ◌≡◌ {A = Option A} (unwrap_or (slice_get [] n) None) None
none-at zero = refl
none-at (suc n) = refl

-- before a number
pub front : {A : Type 0} (xs : List (Option A)) (count n : ℕ) (a : A)
    → unwrap_or (slice_get (take count xs) n) None ≡ Some a → (n < count) × (unwrap_or (slice_get xs n) None ≡ Some a)
front [] zero n a h = absurd (none-some a (sym (none-at n) ∙ h))
front [] (suc count) n a h = absurd (none-some a (sym (none-at n) ∙ h))
front (x ∷ xs) zero n a h = absurd (none-some a (sym (none-at n) ∙ h))
front (x ∷ xs) (suc count) zero a h = (omega arith, h)
front (x ∷ xs) (suc count) (suc n) a h =
    let rest = front xs count n a h in let low = rest.0 in (omega (arith, low), rest.1)

-- Clauses that are kept.

pub none-kept : (id : ℕ) (c : KeptClause) → kept_at [] id ≡ Some c → ⊥
none-kept id c h = none-some c (sym (none-at id) ∙ h)

-- what was kept stays
pub kept-stays : (kept more : Kept) (id : ℕ) (c : KeptClause) → kept_at kept id ≡ Some c
    → kept_at (kept ++ more) id ≡ Some c
kept-stays [] more id c h = absurd (none-kept id c h)
kept-stays (k ∷ ks) more zero c h = h
kept-stays (k ∷ ks) more (suc id) c h = kept-stays ks more id c h

-- the last one has the next number
pub kept-last : (kept : Kept) (x : Option KeptClause) → kept_at (kept ++ x ∷ []) (length kept) ≡ x
kept-last [] x = refl
kept-last (k ∷ ks) x = kept-last ks x

-- another one was kept before
pub kept-cases : (kept : Kept) (x : Option KeptClause) (id : ℕ) (c : KeptClause) → kept_at (kept ++ x ∷ []) id ≡ Some c
    → (kept_at kept id ≡ Some c) ⊎ ((id ≡ length kept) × (x ≡ Some c))
kept-cases [] x zero c h = inr (refl, h)
kept-cases [] x (suc id) c h = absurd (none-kept id c h)
kept-cases (k ∷ ks) x zero c h = inl h
kept-cases (k ∷ ks) x (suc id) c h = elim (kept-cases ks x id c h) [
  | inl before ↦ inl before
  | inr last ↦ inr (ap suc last.0, last.1)
]

-- The literals of a clause, by what a look-up gives.

pub found-literals : (clause : Option KeptClause) (ls : List Lit) → Some ls ≡ option_map (λ c. c.literals) clause
    → ls ≡ literals_in clause
found-literals None ls h = absurd (some-none ls h)
found-literals (Some c) ls h = same_Some ls c.literals h

pub no-literals : (clause : Option KeptClause) → None ≡ option_map (λ c. c.literals) clause → [] ≡ literals_in clause
no-literals None h = refl
no-literals (Some c) h = absurd (none-some c.literals h)

-- The places of their atoms.

-- the atoms of each clause are below a number where there is room for all,
pub each-reserved : (n : ℕ) (kept : Kept) → has_room_for n kept ≡ true → (id : ℕ) (c : KeptClause)
    → kept_at kept id ≡ Some c → are_reserved n c.literals ≡ true
each-reserved n [] h id c there = absurd (none-kept id c there)
each-reserved n (x ∷ kept) h zero c there =
    ap (is_reserved n) (sym there) ∙ (and_parts (is_reserved n x) (has_room_for n kept) h).0
each-reserved n (x ∷ kept) h (suc id) c there =
    each-reserved n kept (and_parts (is_reserved n x) (has_room_for n kept) h).1 id c there

-- and the other way round
pub room-for-each : (n : ℕ) (kept : Kept)
    → ((id : ℕ) (c : KeptClause) → kept_at kept id ≡ Some c → are_reserved n c.literals ≡ true)
    → has_room_for n kept ≡ true
room-for-each n [] h = refl
room-for-each n (None ∷ kept) h = room-for-each n kept (λ id. h (suc id))
room-for-each n (Some c ∷ kept) h =
    and_from (are_reserved n c.literals) (has_room_for n kept) (h 0 c refl) (room-for-each n kept (λ id. h (suc id)))

-- Clauses that are dropped: one that is not above the level stays.

pub stays : (level : ℕ) (kept : Kept) (id : ℕ) (c : KeptClause) → kept_at kept id ≡ Some c → c.level ≤ level
    → kept_at (kept_up_to level kept) id ≡ Some c
stays level [] id c h low = absurd (none-kept id c h)
stays level (k ∷ ks) zero c h low =
    ap (stays_up_to level) h ∙ ap (λ (b : Bool). if b then None else Some c) (le-ltb level c.level low)
stays level (k ∷ ks) (suc id) c h low = stays level ks id c h low

pub none-stays : (kept : Kept) (id : ℕ) (c : KeptClause) → kept_at (map (λ clause. None) kept) id ≡ Some c → ⊥
none-stays [] id c h = none-kept id c h
none-stays (k ∷ ks) zero c h = none-some c h
none-stays (k ∷ ks) (suc id) c h = none-stays ks id c h
