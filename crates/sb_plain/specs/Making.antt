-- Private: how derivatives and points are made, and what is found.
use Rattle.std.specs.Prelude.{◌≡◌, ℕ, zero, suc, ◌+◌, ◌<◌, ◌≤◌, Bool, true, false, cond, nat_le, if◌then◌else◌, List, [], ◌∷◌, Option, Some, is_some, get_or, slice_get, map, unwrap_or, length, option_and_then, All}
use Rattle.std.specs.List.{list_all}
use Rattle.sb_class.specs.Ranges.{Range, in_ranges}
use Rattle.sb_word.specs.Words.{is_character}
use Rattle.sb_lang.specs.Regex.{Regex, none, eps, cat, rep}
use Rattle.sb_lang.specs.Constructors.{mkcat, mkalt, mkand, mknot, mkrep, mkpath}
use Rattle.sb_lang.specs.Derivative.{nd}
use Rattle.sb_regex.specs.Numbered.{regex_at, regexes_at}
use Rattle.sb_plain.specs.declared.shape.Operation.{Operation}
use Rattle.sb_plain.specs.declared.shape.Operation.TheVariants as operation
use Rattle.sb_plain.specs.CutPoints.{none_between, ArePoints}
use Rattle.sb_plain.specs.Memory.{Learnt, place_of, points_of, derivative_of}

-- the last point at or below the number, of ascending ones, or the first argument
unfoldable pub floor : ℕ → List ℕ → ℕ → ℕ
floor d [] c = d
floor d (p ∷ ps) c = floor (cond (nat_le p c) p d) ps c

-- where the stretch of a number between points begins
abbrev pub stretch : List ℕ → ℕ → ℕ
stretch points c = floor 0 points c

-- the derivative of a regex by a character, if it is remembered
abbrev pub found : Learnt → ℕ → ℕ → Option ℕ
found m n c = option_and_then (λ points. derivative_of m n (stretch points c)) (points_of m n)

abbrev pub is_found : Learnt → ℕ → ℕ → Bool
is_found m c n = is_some (found m n c)

abbrev pub AreFound : Learnt → ℕ → List ℕ → Type 0
AreFound m c parts = All (λ n. is_found m c n ≡ true) parts

-- the number is below a bound, and its derivative is not remembered
abbrev pub IsWanted : ℕ → Learnt → ℕ → ℕ → Type 0
IsWanted n m c q = (q < n) × (is_found m c q ≡ false)

-- how many numbers below a bound do not pass the test
unfoldable pub lacking : (ℕ → Bool) → ℕ → ℕ
lacking f zero = 0
lacking f (suc n) = lacking f n + cond (f n) 0 1

-- every test that the first list passes the other one passes too
abbrev pub Covers : List ℕ → List ℕ → Type 0
Covers xs ys = (t : ℕ → Bool) → list_all t xs ≡ true → list_all t ys ≡ true

-- the set has all characters or none of each stretch
abbrev pub Parts : List ℕ → (ℕ → Bool) → Type 0
Parts points set = (c d : ℕ) → c ≤ d → is_character d ≡ true → none_between points c d ≡ true → set c ≡ set d

-- what the operation makes of the derivatives of parts by a character
unfoldable pub made : List Regex → Operation → ℕ → List Regex → Regex
made rs operation.Nothing c ps = none
made rs (operation.Set ranges) c ps = if in_ranges ranges.items c then eps else none
made rs (operation.Cat b) c ps = mkcat (get_or ps 0 none) (regex_at rs b)
made rs (operation.CatOrRest b) c ps = mkalt (mkcat (get_or ps 0 none) (regex_at rs b) ∷ get_or ps 1 none ∷ [])
made rs operation.Alt c ps = mkalt ps
made rs operation.And c ps = mkand ps
made rs operation.Not c ps = mknot (get_or ps 0 none)
made rs (operation.Rep a n m) c ps = mkcat (get_or ps 0 none) (mkrep (regex_at rs a) n m)
made rs (operation.Path b) c ps = mkpath (get_or ps 0 none) (regex_at rs b)

-- the ranges of a set
unfoldable pub set_ranges : Operation → List Range
set_ranges operation.Nothing = []
set_ranges (operation.Set ranges) = ranges.items
set_ranges (operation.Cat b) = []
set_ranges (operation.CatOrRest b) = []
set_ranges operation.Alt = []
set_ranges operation.And = []
set_ranges operation.Not = []
set_ranges (operation.Rep a n m) = []
set_ranges (operation.Path b) = []

-- so many parts there are at least
unfoldable pub least_parts : Operation → ℕ
least_parts operation.Nothing = 0
least_parts (operation.Set ranges) = 0
least_parts (operation.Cat b) = 1
least_parts (operation.CatOrRest b) = 2
least_parts operation.Alt = 0
least_parts operation.And = 0
least_parts operation.Not = 1
least_parts (operation.Rep a n m) = 1
least_parts (operation.Path b) = 1

-- the number of a regex is known to the operation
abbrev pub OperandIsKnown : List Regex → Operation → Type 0
OperandIsKnown rs operation.Nothing = Unit {0}
OperandIsKnown rs (operation.Set ranges) = Unit {0}
OperandIsKnown rs (operation.Cat b) = b < length rs
OperandIsKnown rs (operation.CatOrRest b) = b < length rs
OperandIsKnown rs operation.Alt = Unit {0}
OperandIsKnown rs operation.And = Unit {0}
OperandIsKnown rs operation.Not = Unit {0}
OperandIsKnown rs (operation.Rep a n m) = a < length rs
OperandIsKnown rs (operation.Path b) = b < length rs

-- the derivatives of the parts by a character
abbrev pub nd_each : List Regex → ℕ → List Regex
nd_each ps c = map (λ p. nd p c) ps

-- what a regex's derivative is made from
pub record IsShape (rs : List Regex) (n : ℕ) (op : Operation) (parts : List ℕ) : Type 0 where
  pub below : All (λ i. i < n) parts
  pub long : least_parts op ≤ length parts
  pub operand : OperandIsKnown rs op
  pub value : (c : ℕ) → nd (regex_at rs n) c ≡ made rs op c (nd_each (regexes_at rs parts) c)

-- that of a concatenation
pub record IsShapeOfCat (rs : List Regex) (a b : ℕ) (op : Operation) (parts : List ℕ) : Type 0 where
  pub below : (n : ℕ) → a < n → b < n → All (λ i. i < n) parts
  pub long : least_parts op ≤ length parts
  pub operand : OperandIsKnown rs op
  pub value : (c : ℕ) → nd (cat (regex_at rs a) (regex_at rs b)) c
      ≡ made rs op c (nd_each (regexes_at rs parts) c)

-- that of a repetition
pub record IsShapeOfRep (rs : List Regex) (a least most : ℕ) (op : Operation) (parts : List ℕ) : Type 0 where
  pub below : (n : ℕ) → a < n → All (λ i. i < n) parts
  pub long : least_parts op ≤ length parts
  pub operand : OperandIsKnown rs op
  pub value : (c : ℕ) → nd (rep (regex_at rs a) least most) c ≡ made rs op c (nd_each (regexes_at rs parts) c)

-- the derivative that is remembered
abbrev pub target_at : Learnt → ℕ → ℕ → ℕ
target_at m c n = unwrap_or (found m n c) 0

-- each place is one of a list
abbrev pub PlacesExist : Learnt → Type 0
PlacesExist m = (n k : ℕ) → place_of m n ≡ Some k → k < length m.0

-- there may be more lists, and all else stays
pub record ListsAreKept (old new : Learnt) : Type 0 where
  pub lists : (k : ℕ) → k < length old.0 → slice_get new.0 k ≡ slice_get old.0 k
  pub rest : new.1 ≡ old.1

-- at the place is a list with the points of all parts and the ends of the operation's ranges
pub record IsPlaceFor (old new : Learnt) (op : Operation) (parts : List ℕ) (k : ℕ) : Type 0 where
  pub list : List ℕ
  pub there : slice_get new.0 k ≡ Some list
  pub points : ArePoints list
  pub lists : All (λ n. (l : List ℕ) → points_of old n ≡ Some l → Covers list l) parts
  pub ranges : Parts list (in_ranges (set_ranges op))
