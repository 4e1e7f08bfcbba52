-- Bounds of variables, and of linear sums by them.
use Rattle.std.specs.Prelude.{ℤ, pos, ◌+ℤ◌, ◌*ℤ◌, int_lt, int_le, if◌then◌else◌, List, [], ◌∷◌, Option, Some, None, option_map, option_and_then}
use Rattle.sb_script.specs.Sums.{Variable, int_constant, length_of, Summand, is_same_variable}

pub data Bound : Type 0 where
  -- the variable is at least the number, and at most
  at_least : Variable → ℤ → Bound
  at_most : Variable → ℤ → Bound

-- what a bound says of a variable: a lower bound, an upper one
abbrev pub lower_said : Variable → Bound → Option ℤ
lower_said x (at_least y k) = if is_same_variable x y then Some k else None
lower_said x (at_most y k) = None

abbrev pub upper_said : Variable → Bound → Option ℤ
upper_said x (at_least y k) = None
upper_said x (at_most y k) = if is_same_variable x y then Some k else None

abbrev pub greater_of : Option ℤ → Option ℤ → Option ℤ
greater_of None n = n
greater_of (Some m) None = Some m
greater_of (Some m) (Some n) = Some (if int_le m n then n else m)

abbrev pub lesser_of : Option ℤ → Option ℤ → Option ℤ
lesser_of None n = n
lesser_of (Some m) None = Some m
lesser_of (Some m) (Some n) = Some (if int_le m n then m else n)

-- a length is at least 0
abbrev pub lowest : Variable → Option ℤ
lowest (int_constant serial) = None
lowest (length_of serial) = Some (pos 0)

-- the best lower bound of a variable, and the best upper one
abbrev pub lower_in : List Bound → Variable → Option ℤ
lower_in [] x = lowest x
lower_in (b ∷ bs) x = greater_of (lower_said x b) (lower_in bs x)

abbrev pub upper_in : List Bound → Variable → Option ℤ
upper_in [] x = None
upper_in (b ∷ bs) x = lesser_of (upper_said x b) (upper_in bs x)

-- the least value of a sum by lower and upper bounds of its variables; none where one that it needs is missing
abbrev pub least_product : (Variable → Option ℤ) → (Variable → Option ℤ) → Summand → Option ℤ
least_product lower upper s = option_map (λ n. s.0 *ℤ n) (if int_lt (pos 0) s.0 then lower s.1 else upper s.1)

abbrev pub least_by : (Variable → Option ℤ) → (Variable → Option ℤ) → List Summand → Option ℤ
least_by lower upper [] = Some (pos 0)
least_by lower upper (s ∷ ss) =
    option_and_then (λ m. option_map (λ n. m +ℤ n) (least_by lower upper ss)) (least_product lower upper s)

abbrev pub least_sum : List Bound → List Summand → Option ℤ
least_sum bs ss = least_by (lower_in bs) (upper_in bs) ss

-- the greatest: the same with the bounds in each other's place
abbrev pub greatest_sum : List Bound → List Summand → Option ℤ
greatest_sum bs ss = least_by (upper_in bs) (lower_in bs) ss
