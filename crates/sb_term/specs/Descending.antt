-- Terms by number from the largest down, so that the parts of each stand behind it, whatever the parts of a term are.
use Rattle.std.specs.Prelude.{◌≡◌, ℕ, suc, ◌<◌, max, Bool, true, nat_eq, nat_lt, List, [], ◌∷◌, ◌++◌, length, unwrap_or, All}
use Rattle.std.specs.List.{list_all, list_any}
use Rattle.std.specs.Map.{lookup}
use Rattle.std.specs.BTreeMap.{is_at}
use Rattle.std.specs.Ordering.{nat_cmp}
use Rattle.sb_meaning.specs.Terms.{Term}
use Rattle.sb_term.specs.Numbered.{term_at, terms_at}

-- the number is one of these
abbrev pub has : List ℕ → ℕ → Bool
has is i = list_any (nat_eq i) is

-- all of them, one after the other
abbrev pub AllOf : {X : Type 0} → (X → Type 0) → List X → Type 0
AllOf P [] = Unit {0}
AllOf P (x ∷ xs) = P x × AllOf P xs

-- Each number of a part passes.
abbrev pub PartsPass : (Term → List Term) → List Term → (ℕ → Bool) → ℕ → Type 0
PartsPass parts ts test i = (is : List ℕ) → terms_at ts is ≡ parts (term_at ts i) → All (λ j. j < i) is
    → list_all test is ≡ true

-- the same of what is no test
abbrev pub PartsAre : (Term → List Term) → List Term → (ℕ → Type 0) → ℕ → Type 0
PartsAre parts ts P i = (is : List ℕ) → terms_at ts is ≡ parts (term_at ts i) → All (λ j. j < i) is → AllOf P is

-- the parts of each stand behind it, or are among others
abbrev pub HaveParts : (Term → List Term) → List Term → List ℕ → List ℕ → Type 0
HaveParts parts ts [] others = Unit {0}
HaveParts parts ts (i ∷ is) others = PartsPass parts ts (has (is ++ others)) i × HaveParts parts ts is others

-- what passes has parts that pass
abbrev pub GoesDown : (Term → List Term) → (Term → Bool) → Type 0
GoesDown parts test = (t : Term) → test t ≡ true → list_all test (parts t) ≡ true

-- The number of the term is one of these, the parts of each stand behind it, and they are no others: what goes down
-- from a term to its parts, and holds of the term, holds of each.
pub record AreReached (parts : Term → List Term) (ts : List Term) (root : ℕ) (is : List ℕ) : Type 0 where
  pub first : has is root ≡ true
  pub below : list_all (λ i. nat_lt i (length ts)) is ≡ true
  pub passes : (test : Term → Bool) → GoesDown parts test → test (term_at ts root) ≡ true
      → list_all (λ i. test (term_at ts i)) is ≡ true
  pub behind : HaveParts parts ts is []

-- the same of those that were taken and those that are left
pub record Reaching (parts : Term → List Term) (ts : List Term) (root : ℕ) (is left : List ℕ) : Type 0 where
  pub first : has (is ++ left) root ≡ true
  pub below : list_all (λ i. nat_lt i (length ts)) (is ++ left) ≡ true
  pub passes : (test : Term → Bool) → GoesDown parts test → test (term_at ts root) ≡ true
      → list_all (λ i. test (term_at ts i)) (is ++ left) ≡ true
  pub behind : HaveParts parts ts is left

-- one more than the largest of those that are left
abbrev pub top : List ℕ → ℕ
top [] = 0
top (k ∷ ks) = max (suc k) (top ks)

-- numbers with more of them
pub record Puts (old more new : List ℕ) : Type 0 where
  pub kept : (i : ℕ) → has old i ≡ true → has new i ≡ true
  pub there : list_all (has new) more ≡ true
  pub only : (test : ℕ → Bool) → list_all test old ≡ true → list_all test more ≡ true → list_all test new ≡ true

-- what is known at a number
abbrev pub known_at : {A : Type 0} → A → List (ℕ × A) → ℕ → A
known_at none known i = unwrap_or (lookup (is_at (nat_cmp i)) known) none

-- what is known of each of these
abbrev pub AreKnown : {A : Type 0} → A → (ℕ → A → Type 0) → List (ℕ × A) → List ℕ → Type 0
AreKnown none P known is = (i : ℕ) → has is i ≡ true → P i (known_at none known i)
