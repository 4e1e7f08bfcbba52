-- Private: digits of a base, and numbers that are read as far as 64 bits hold them.
use Rattle.std.specs.Prelude.{ℕ, ◌-◌, ◌^◌, ◌&&◌, nat_lt, nat_le, if◌then◌else◌, Option, Some, None, option_and_then}

abbrev pub decimal_value : ℕ → Option ℕ
decimal_value b = if nat_le 48 b && nat_le b 57 then Some (b - 48) else None

abbrev pub if_small : ℕ → Option ℕ
if_small n = if nat_lt n (2 ^ 64) then Some n else None

abbrev pub small : Option ℕ → Option ℕ
small = option_and_then if_small
