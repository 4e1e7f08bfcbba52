-- Spare literals of clauses.
use Rattle.std.proofs.Common.{◌≡◌, ℕ, List, [], ◌∷◌, ◌++◌, length, Some, Result, Ok, Err, inl, inr, arith}
use Rattle.std.specs.Result.{IfOk, OnErr}
use Rattle.std.proofs.lemmas.Bool.{cases_eq}
use Rattle.std.proofs.lemmas.List.{length-map, length_push}
use Rattle.sb_lit.specs.declared.clause.ClauseId.{ClauseId}
use Rattle.sb_lit.specs.Kept.{Kept, KeptClause, kept_up_to, stays_up_to}
use Rattle.sb_clauses.specs.Sparing.{AreSpared}
use Rattle.sb_clauses.proofs.Adding.{earlier_clause}
use Rattle.sb_clauses.proofs.Dropped.{has_before}

-- one more clause has no spare literal
spared_more : (kept : Kept) (k : KeptClause) (spares : List ℕ) → AreSpared kept spares
    → AreSpared (kept ++ Some k ∷ []) spares
spared_more kept k spares h = record {
  among = λ id c has begun. elim (cases_eq id (length kept)) [
    | inl here ↦ absurd (omega (arith, begun, h.past id (omega (arith, here))))
    | inr apart ↦ h.among id c (earlier_clause kept (Some k) id c apart has) begun
  ];
  past = λ id past. h.past id (omega (arith, past, length_push kept (Some k)));
}

pub spared_either : {E : Type 0} (result : Result ClauseId E) (kept new : Kept) (k : KeptClause) (spares : List ℕ)
    → IfOk result (λ _. new ≡ kept ++ Some k ∷ []) → OnErr result (new ≡ kept) → AreSpared kept spares
    → AreSpared new spares
spared_either (Ok id) kept new k spares ok err h = rw ok (spared_more kept k spares h)
spared_either (Err e) kept new k spares ok err h = rw err h

pub dropped_spared : (level : ℕ) (kept : Kept) (spares : List ℕ) → AreSpared kept spares
    → AreSpared (kept_up_to level kept) spares
dropped_spared level kept spares h = record {
  among = λ id c has begun. h.among id c (has_before level kept id c has) begun;
  past = λ id past. h.past id (omega (arith, past, length-map kept (stays_up_to level)));
}
