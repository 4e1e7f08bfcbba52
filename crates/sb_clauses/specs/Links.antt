-- Private: numbers, and places without one, each as one number.
use Rattle.std.specs.Prelude.{◌≡◌, ℕ, zero, suc, Option, Some, None, refl}

-- 0 is none, and each number stands as the one above it
abbrev pub link : ℕ → Option ℕ
link zero = None
link (suc n) = Some n

-- what a number or none stands as
abbrev pub code_of_link : Option ℕ → ℕ
code_of_link None = zero
code_of_link (Some n) = suc n

pub code_of_link_of : (code : ℕ) → code_of_link (link code) ≡ code
code_of_link_of zero = refl
code_of_link_of (suc n) = refl
