-- The arguments that a symbol takes, their sorts, and the tests of two of a sort.
use Rattle.std.proofs.Common.{◌≡◌, Bool, true, false, not, if◌then◌else◌, List, [], ◌∷◌, map, length, Some, None, refl}
use Rattle.std.specs.Prelude.{is_none}
use Rattle.std.specs.List.{list_all}
use Rattle.std.proofs.lemmas.Bool.{and_from, false≢true}
use Rattle.sb_meaning.specs.Terms.{Sort, boolean, integer, text, reglan, Symbol, Term}
use Rattle.sb_meaning.specs.Sorts.{Arity, sort_of, is_same_sort, arity_of, is_count, takes_sorts, is_left_out_use, are_one_sort}
use Rattle.sb_script.proofs.CallerLemmas.{same_sort_itself}
use Rattle.sb_script.specs.Faults.{wrong_count, wrong_sort, unsupported}
use Rattle.sb_script.specs.Heads.{judged}
use Rattle.sb_script.specs.Fragment.{is_word_pair, is_linear_pair, sort_of_first}

-- each of them is as P says
abbrev pub Each : (Term → Type 0) → List Term → Type 0
Each P [] = Unit {0}
Each P (t ∷ ts) = P t × Each P ts

pub any_term : (ts : List Term) → Each (λ t. Unit {0}) ts
any_term [] = tt
any_term (t ∷ ts) = (tt, any_term ts)

-- the test of two terms of a sort
abbrev pub test_of : Sort → Term → Term → Bool
test_of boolean a b = true
test_of integer a b = is_linear_pair a b
test_of text a b = is_word_pair a b
test_of reglan a b = false

-- the number and the sorts of the arguments are those that are taken
pub record IsTaken (arity : Arity) (sorts : List Sort) : Type 0 where
  pub count : is_count arity (length sorts) ≡ true
  pub takes : takes_sorts arity sorts ≡ true

pub taken : (s : Symbol) (sorts : List Sort) → is_none (judged s sorts) ≡ true → IsTaken (arity_of s) sorts
taken s sorts h = step (is_count (arity_of s) (length sorts)) refl (takes_sorts (arity_of s) sorts) refl h
  where
    step : (b : Bool) → is_count (arity_of s) (length sorts) ≡ b → (c : Bool) → takes_sorts (arity_of s) sorts ≡ c
        → is_none (if not b then Some wrong_count else if not c then Some wrong_sort
        else if is_left_out_use (arity_of s) sorts then Some unsupported else None) ≡ true
        → IsTaken (arity_of s) sorts
    step true e true f h = record { count = e; takes = f }
    step true e false f h = absurd (false≢true h)
    step false e c f h = absurd (false≢true h)

pub all_of_first : (ts : List Term) → are_one_sort (map sort_of ts) ≡ true
    → list_all (is_same_sort (sort_of_first ts)) (map sort_of ts) ≡ true
all_of_first [] h = refl
all_of_first (t ∷ ts) h =
    and_from (is_same_sort (sort_of t) (sort_of t)) (list_all (is_same_sort (sort_of t)) (map sort_of ts))
    (same_sort_itself (sort_of t)) h
