-- Private: the terms of a body in which parameters stand, and what was made anew of them, by their numbers.
use Rattle.std.specs.Prelude.{◌≡◌, ℕ, ◌<◌, true, nat_lt, List, [], length, unwrap_or}
use Rattle.std.specs.List.{list_all, filter}
use Rattle.std.specs.Map.{lookup}
use Rattle.std.specs.BTreeMap.{is_at}
use Rattle.std.specs.Ordering.{nat_cmp}
use Rattle.sb_meaning.specs.Terms.{Term, apply, terms_in}
use Rattle.sb_script.specs.Heads.{with_arguments}
use Rattle.sb_term.specs.Numbered.{term_at}
use Rattle.sb_term.specs.Parameters.{has_parameters}
use Rattle.sb_term.specs.Descending.{has, PartsAre, HaveParts}

-- the arguments of a term
abbrev pub arguments_in : Term → List Term
arguments_in (apply s terms) = terms_in terms
arguments_in _ = []

-- those in which parameters stand
abbrev pub open_parts : Term → List Term
open_parts t = filter has_parameters (arguments_in t)

-- the numbers among these in whose terms parameters stand
abbrev pub open_numbers : List Term → List ℕ → List ℕ
open_numbers ts is = filter (λ i. has_parameters (term_at ts i)) is

-- Parameters stand in all of these terms, and the arguments of each in which some stand are behind it.
pub record AreOpen (ts : List Term) (is : List ℕ) : Type 0 where
  pub below : list_all (λ i. nat_lt i (length ts)) is ≡ true
  pub parametric : list_all (λ i. has_parameters (term_at ts i)) is ≡ true
  pub parts : HaveParts open_parts ts is []

-- what is known to be made of a number, itself where nothing is
abbrev pub next_in : List (ℕ × ℕ) → ℕ → ℕ
next_in made i = unwrap_or (lookup (is_at (nat_cmp i)) made) i

-- Where the table was `ts` and is `us`: the number has the term with arguments of the one before.
abbrev pub IsMadeAs : List Term → List Term → List Term → ℕ → ℕ → Type 0
IsMadeAs ts us given i next = (next < length us) × (term_at us next ≡ with_arguments given (term_at ts i))

-- what is known to be made of the number does
abbrev pub IsNext : List Term → List Term → List Term → List (ℕ × ℕ) → ℕ → Type 0
IsNext ts us given made i = IsMadeAs ts us given i (next_in made i)

-- the arguments of a term are made in the table
abbrev pub HasNext : List Term → List Term → List (ℕ × ℕ) → ℕ → Type 0
HasNext ts given made i = PartsAre arguments_in ts (IsNext ts ts given made) i

abbrev pub AreMadeOf : List Term → List Term → List Term → List (ℕ × ℕ) → List ℕ → Type 0
AreMadeOf ts us given made is = (i : ℕ) → has is i ≡ true → IsNext ts us given made i
