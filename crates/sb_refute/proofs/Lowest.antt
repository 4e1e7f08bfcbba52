-- The empty clause of the lowest level.
use Rattle.sb_refute.proofs.Words.{kept_at-up_to, ◌≡◌, ℕ, ◌+◌, ◌<◌, ◌≤◌, inl, inr, Bool, true, false, nat_lt, if◌then◌else◌, [], ◌∷◌, ◌++◌, length, take, Option, Some, None, refl, sym, ap, subst, ◌∙◌, arith, ◌≢◌, ltb-true, nat_tests, length-take-le, take_more, same_Some, unwrap_or-slice_get, Kept, KeptClause, kept_at, kept_up_to, EmptyClause, IsLowestEmpty, empty_at, refuted_up_to, IsEmptyOf, lower_of}
use Rattle.sb_refute.proofs.Clauses.{kept-stays, kept-cases, stays, kept-last}

-- With one more behind the others.

-- where it is the lowest one,
last-lowest : (kept : Kept) (x : Option KeptClause) (new : EmptyClause) → IsEmptyOf (length kept) x (Some new)
    → ((id : ℕ) (c : KeptClause) → kept_at kept id ≡ Some c → c.literals ≡ [] → new.level ≤ c.level)
    → IsLowestEmpty (kept ++ x ∷ []) (Some new)
last-lowest kept x new is low = (
  ap (kept_at (kept ++ x ∷ [])) is.0 ∙ kept-last kept x ∙ is.1,
  λ id c there bare. elim (kept-cases kept x id c there) [
    | inl before ↦ low id c before bare
    | inr last ↦
        let level = ap (λ (k : KeptClause). k.level) (same_Some (empty_at new) c (sym is.1 ∙ last.1)) in
        omega (arith, level)
  ],
)

-- and where it is not
still-lowest : (kept : Kept) (x : Option KeptClause) (old : EmptyClause) → IsLowestEmpty kept (Some old)
    → ((c : KeptClause) → x ≡ Some c → c.literals ≡ [] → old.level ≤ c.level)
    → IsLowestEmpty (kept ++ x ∷ []) (Some old)
still-lowest kept x old h low = (
  kept-stays kept (x ∷ []) old.clause.0 (empty_at old) h.0,
  λ id c there bare. elim (kept-cases kept x id c there) [
    | inl before ↦ h.1 id c before bare
    | inr last ↦ low c last.1 bare
  ],
)

pub lower-one : (kept : Kept) (x : Option KeptClause) (one other : Option EmptyClause) → IsLowestEmpty kept one
    → IsEmptyOf (length kept) x other → IsLowestEmpty (kept ++ x ∷ []) (lower_of one other)
lower-one kept x None None first second = λ id c there. elim (kept-cases kept x id c there) [
  | inl before ↦ first id c before
  | inr last ↦ second c last.1
]
lower-one kept x None (Some new) first second =
    last-lowest kept x new second (λ id c before bare. absurd (first id c before bare))
lower-one kept x (Some old) None first second = still-lowest kept x old first (λ c is bare. absurd (second c is bare))
lower-one kept x (Some old) (Some new) first second = step (nat_lt new.level old.level) refl
  where
    step : (b : Bool) → nat_lt new.level old.level ≡ b
        → IsLowestEmpty (kept ++ x ∷ []) (if b then Some new else Some old)
    step true is =
        let lower : new.level < old.level = ltb-true new.level old.level is in
        last-lowest kept x new second
        (λ id c before bare. let high = first.1 id c before bare in omega (arith, high, lower))
    step false is =
        let lower : old.level ≤ new.level = grind (arith, nat_tests) in
        still-lowest kept x old first
        (λ c there bare.
        let level = ap (λ (k : KeptClause). k.level) (same_Some (empty_at new) c (sym second.1 ∙ there)) in
        omega (arith, level, lower))

pub lowest-next : (kept : Kept) (n : ℕ) (one other : Option EmptyClause) → n < length kept
    → IsLowestEmpty (take n kept) one → IsEmptyOf n (kept_at kept n) other
    → IsLowestEmpty (take (n + 1) kept) (lower_of one other)
lowest-next kept n one other low first second =
    subst (λ (k : Kept). IsLowestEmpty k (lower_of one other))
    (sym (take_more kept n None low ∙ ap (λ x. take n kept ++ x ∷ []) (sym (unwrap_or-slice_get kept n None))))
    (lower-one (take n kept) (kept_at kept n) one other first
    (subst (λ (m : ℕ). IsEmptyOf m (kept_at kept n) other) (sym (length-take-le n kept (omega (arith, low)))) second))

-- one that has literals
pub lowest-more : (kept : Kept) (clause : KeptClause) (r : Option EmptyClause) → clause.literals ≢ []
    → IsLowestEmpty kept r → IsLowestEmpty (kept ++ Some clause ∷ []) r
lowest-more kept clause None some h = lower-one kept (Some clause) None None h
    (λ c is. subst (λ (k : KeptClause). k.literals ≢ []) (same_Some clause c is) some)
lowest-more kept clause (Some old) some h = lower-one kept (Some clause) (Some old) None h
    (λ c is. subst (λ (k : KeptClause). k.literals ≢ []) (same_Some clause c is) some)

-- Where levels are left.

pub lowest-left : (level : ℕ) (kept : Kept) (r : Option EmptyClause) → IsLowestEmpty kept r
    → IsLowestEmpty (kept_up_to level kept) (refuted_up_to level r)
lowest-left level kept None h = λ id c there. h id c (kept_at-up_to level kept id c there).0
lowest-left level kept (Some empty) h = step (nat_lt level empty.level) refl
  where
    step : (b : Bool) → nat_lt level empty.level ≡ b
        → IsLowestEmpty (kept_up_to level kept) (if b then None else Some empty)
    step true is = λ id c there bare.
        let before = kept_at-up_to level kept id c there in
        let lower : empty.level ≤ c.level = h.1 id c before.0 bare in
        let low : c.level ≤ level = before.1 in
        let above : level < empty.level = ltb-true level empty.level is in omega (arith, lower, low, above)
    step false is =
        let low : empty.level ≤ level = grind (arith, nat_tests) in (
          stays level kept empty.clause.0 (empty_at empty) h.0 low,
          λ id c there bare. h.1 id c (kept_at-up_to level kept id c there).0 bare,
        )
