-- A wish that has come true stays so on a longer trail.
use Rattle.std.proofs.Common.{◌≡◌, ℕ, ◌≤◌, Bool, true, false, not, cond, List, ◌++◌, slice_get, count_by, Option, refl, ◌∙◌, arith}
use Rattle.std.proofs.lemmas.Bool.{and_from, and_parts, false≢true, or_left}
use Rattle.std.proofs.lemmas.List.Folds.{list_any-append}
use Rattle.std.proofs.lemmas.List.Sums.{sum_by-le-sum_by}
use Rattle.sb_theory.specs.Words.{Assigned, Atom, Regex, atoms_in}
use Rattle.sb_theory.specs.Wishes.{Wish, is_granted, is_same_as, is_there, is_valued, ungranted, wish_atom, wishes}
use Rattle.sb_theory.specs.declared.strings.Strings.{Strings}

-- Counts of those that do not pass a test, where more pass another one.

pub ones : (a b : Bool) → (a ≡ true → b ≡ true) → cond (not b) 1 0 ≤ cond (not a) 1 0
ones true true h = omega arith
ones true false h = absurd (false≢true (h refl))
ones false true h = omega arith
ones false false h = omega arith

abbrev pub one_if_not : {X : Type 0} → (X → Bool) → X → ℕ
one_if_not test x = cond (not (test x)) 1 0

pub fewer : {X : Type 0} (old new : X → Bool) (xs : List X) → ((x : X) → old x ≡ true → new x ≡ true)
    → count_by (λ x. not (new x)) xs ≤ count_by (λ x. not (old x)) xs
fewer old new xs stays =
    sum_by-le-sum_by (one_if_not new) (one_if_not old) xs (λ x. ones (old x) (new x) (stays x))

-- Wishes that have come true.

abbrev pub gives : List Atom → Option Atom → Assigned → Bool
gives table a e = is_same_as (slice_get table e.literal.atom) a

pub granted_longer : (rs : List Regex) (table : List Atom) (entries more : List Assigned) (wish : Wish)
    → is_granted rs table entries wish ≡ true → is_granted rs table (entries ++ more) wish ≡ true
granted_longer rs table entries more wish h =
    let parts = and_parts (is_there rs wish) (is_valued table entries (wish_atom rs wish)) h in
    and_from (is_there rs wish) (is_valued table (entries ++ more) (wish_atom rs wish)) parts.0
    (list_any-append (gives table (wish_atom rs wish)) entries more
    ∙ or_left (is_valued table entries (wish_atom rs wish)) (is_valued table more (wish_atom rs wish)) parts.1)

pub ungranted_longer : (x : Strings) (entries more : List Assigned)
    → ungranted x (entries ++ more) ≤ ungranted x entries
ungranted_longer x entries more =
    fewer (is_granted x.store.arena (atoms_in x.store.arena x.atoms) entries)
    (is_granted x.store.arena (atoms_in x.store.arena x.atoms) (entries ++ more)) (wishes x)
    (granted_longer x.store.arena (atoms_in x.store.arena x.atoms) entries more)
