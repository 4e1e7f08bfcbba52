-- Numerals: `0`, or decimal digits of which the first is not 0 (SMT-LIB 2.6, section 3.1), the numbers that they spell,
-- and integers as they are printed.
use Rattle.std.specs.Prelude.{ℕ, ℤ, pos, negsuc, suc, ◌+◌, ◌-◌, ◌*◌, ◌^◌, Bool, false, not, ◌&&◌, ◌==◌, nat_le, nat_lt, if◌then◌else◌, List, [], ◌∷◌, ◌++◌, codes, decimal, Option, Some, None}
use Rattle.std.specs.List.{list_all}

abbrev pub is_digit : ℕ → Bool
is_digit b = nat_le 48 b && nat_le b 57

abbrev pub is_numeral : List ℕ → Bool
is_numeral [] = false
is_numeral (b ∷ []) = is_digit b
is_numeral (b ∷ c ∷ bs) = not (b == 48) && list_all is_digit (b ∷ c ∷ bs)

-- the number that digits spell behind what came before them
abbrev pub number_from : ℕ → List ℕ → ℕ
number_from n [] = n
number_from n (b ∷ bs) = number_from (10 * n + (b - 48)) bs

-- the number that the digits of a numeral spell
abbrev pub number_of : List ℕ → ℕ
number_of digits = number_from 0 digits

-- the number of a numeral, where 64 bits hold it
abbrev pub numeral_value : List ℕ → Option ℕ
numeral_value bytes =
    if is_numeral bytes && nat_lt (number_of bytes) (2 ^ 64) then Some (number_of bytes) else None

-- an integer as it is printed: `5`, and `(- 5)`
abbrev pub int_text : ℤ → List ℕ
int_text (pos n) = decimal n
int_text (negsuc n) = codes "(- " ++ (decimal (suc n) ++ codes ")")
