-- What follows from kept clauses and from what a theory teaches, whichever values the atoms have.
use Rattle.std.specs.Prelude.{◌≡◌, ℕ, Bool, true, false, not, if◌then◌else◌, List, Option, Some, None}
use Rattle.std.specs.List.{list_all, list_any}
use Rattle.sb_lit.specs.declared.clause.Lit.{Lit}
use Rattle.sb_lit.specs.Kept.{Kept, KeptClause, kept_up_to}

-- a literal is true where the atoms have these values,
abbrev pub literal_holds : (ℕ → Bool) → Lit → Bool
literal_holds values l = if l.positive then values l.atom else not (values l.atom)

-- a clause is of which a literal is,
abbrev pub clause_holds : (ℕ → Bool) → List Lit → Bool
clause_holds values clause = list_any (literal_holds values) clause

-- and the place of a dropped clause says nothing
abbrev pub place_holds : (ℕ → Bool) → Option KeptClause → Bool
place_holds values None = true
place_holds values (Some clause) = clause_holds values clause.literals

-- each kept clause is true
abbrev pub all_hold : (ℕ → Bool) → Kept → Bool
all_hold values kept = list_all (place_holds values) kept

-- each clause that is taught is true
abbrev pub Obeys : (List Lit → Type 0) → (ℕ → Bool) → Type 0
Obeys teaches values = (clause : List Lit) → teaches clause → clause_holds values clause ≡ true

-- the new clauses are true wherever the old ones are, with each clause that is taught
abbrev pub Follows : (List Lit → Type 0) → Kept → Kept → Type 0
Follows teaches old new =
    (values : ℕ → Bool) → Obeys teaches values → all_hold values old ≡ true → all_hold values new ≡ true

-- The same of the clauses up to each level alone: what stays where levels are dropped follows from what stays.
abbrev pub FollowsByLevel : (List Lit → Type 0) → Kept → Kept → Type 0
FollowsByLevel teaches old new = (level : ℕ) → Follows teaches (kept_up_to level old) (kept_up_to level new)

-- no values make the kept clauses, what is taught and all assumptions true
abbrev pub AreRefuted : (List Lit → Type 0) → Kept → List Lit → Type 0
AreRefuted teaches kept assumptions = (values : ℕ → Bool) → Obeys teaches values → all_hold values kept ≡ true
    → list_all (literal_holds values) assumptions ≡ false
