-- Places on the trail for the atoms of the clauses.
use Rattle.std.proofs.Common.{◌≡◌, ℕ, suc, ◌-◌, ◌/◌, ◌<◌, ◌≤◌, true, ltb, List, [], ◌∷◌, Some, None, refl, inl, inr, arith}
use Rattle.std.specs.List.{list_all}
use Rattle.std.proofs.lemmas.Bool.{and_parts, and_from, cases_Bool, lt-ltb, ltb-true}
use Rattle.sb_lit.specs.declared.clause.Lit.{Lit}
use Rattle.sb_lit.specs.Kept.{Kept}
use Rattle.sb_clauses.specs.Watching.{list_of, HasClause}
use Rattle.sb_clauses.specs.Adding.{AreEnough}
use Rattle.sb_clauses.specs.Propagation.{are_reserved, has_room_for}

-- an atom whose literals have lists is below half their number
below_half : (l : Lit) (lists : ℕ) → list_of l < lists → l.atom < (lists - 1) / 2
below_half l lists inside =
    elim (cases_Bool l.positive) [
      | inl sign ↦ omega (arith, rw sign at inside)
      | inr sign ↦ omega (arith, rw sign at inside)
    ]

literals_fit : (lists reserved : ℕ) (clause : List Lit) → (lists - 1) / 2 ≤ reserved
    → list_all (λ l. ltb (list_of l) lists) clause ≡ true → are_reserved reserved clause ≡ true
literals_fit lists reserved [] wide h = refl
literals_fit lists reserved (l ∷ ls) wide h =
    let parts = and_parts (ltb (list_of l) lists) (list_all (λ m. ltb (list_of m) lists) ls) h in
    let place = below_half l lists (ltb-true (list_of l) lists parts.0) in
    and_from (ltb l.atom reserved) (are_reserved reserved ls) (lt-ltb l.atom reserved (omega (arith, place, wide)))
    (literals_fit lists reserved ls wide parts.1)

-- where the literals of each clause have lists their atoms have places
pub all_fit : (lists reserved : ℕ) (kept : Kept) → (lists - 1) / 2 ≤ reserved
    → ((id : ℕ) (clause : List Lit) → HasClause kept id clause → AreEnough clause lists)
    → has_room_for reserved kept ≡ true
all_fit lists reserved [] wide h = refl
all_fit lists reserved (None ∷ kept) wide h =
    all_fit lists reserved kept wide (λ id clause has.
    h (suc id) clause (record { found = has.found; there = has.there; literals = has.literals }))
all_fit lists reserved (Some k ∷ kept) wide h =
    and_from (are_reserved reserved k.literals) (has_room_for reserved kept)
    (literals_fit lists reserved k.literals wide
    (h 0 k.literals (record { found = k; there = refl; literals = refl })).listed)
    (all_fit lists reserved kept wide (λ id clause has.
    h (suc id) clause (record { found = has.found; there = has.there; literals = has.literals })))
