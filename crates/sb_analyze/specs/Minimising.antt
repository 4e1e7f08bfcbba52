-- Private: a clause from which implied literals are left out.
use Rattle.std.specs.Prelude.{◌≡◌, ℕ, Bool, true, false, not, ◌&&◌, ◌||◌, filter, List, Option, Some, None}
use Rattle.std.specs.List.{list_all}
use Rattle.sb_lit.specs.declared.clause.Lit.{Lit}
use Rattle.sb_lit.specs.Clauses.{negation, is_same_literal, is_among}
use Rattle.sb_lit.specs.Kept.{Kept, KeptClause}
use Rattle.sb_trail.specs.declared.assigned.Assigned.{Assigned}
use Rattle.sb_analyze.specs.Explaining.{Explanation}
use Rattle.sb_analyze.specs.Explained.{IsFirstUip}

-- the literal is the negation of the left out one, or another one that stands
abbrev pub is_other : (Lit → Bool) → Lit → Lit → Bool
is_other stands l m = is_same_literal m (negation l) || (stands m && not (is_same_literal m l))

-- the literal stands, and the clause forces its negation where the others that stand are false
abbrev pub is_implied : (Lit → Bool) → Lit → List Lit → Bool
is_implied stands l reason = stands l && (is_among reason (negation l) && list_all (is_other stands l) reason)

-- the same by the clause of a place, if there is one
abbrev pub is_implied_by : (Lit → Bool) → Lit → Option KeptClause → Bool
is_implied_by stands l None = false
is_implied_by stands l (Some clause) = is_implied stands l clause.literals

-- with the literals alone that stand
abbrev pub standing : Explanation → (Lit → Bool) → Explanation
standing s stands = record s { clause = filter stands s.clause }

-- the literals that stand are of the clause, and with these alone it is asserting as before
pub record IsMinimising (kept : Kept) (entries : List Assigned) (level : ℕ) (left : Lit) (s : Explanation)
    (stands : Lit → Bool) : Type 0 where
  pub uip : IsFirstUip kept entries level (standing s stands) left
  pub within : (l : Lit) → stands l ≡ true → is_among s.clause l ≡ true
