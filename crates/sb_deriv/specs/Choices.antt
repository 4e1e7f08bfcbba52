-- Private: pieces with several regexes each, and what is made of those.
use Rattle.std.specs.Prelude.{◌≡◌, ℕ, ◌<◌, ◌≤◌, ◌-◌, Bool, false, not, ◌==◌, cond, List, [], ◌∷◌, ◌++◌, map, filter, take, drop, get_or, unwrap_or, length, suc, Some, None, IsSome, All}
use Rattle.std.specs.List.{list_any}
use Rattle.sb_class.specs.Ranges.{Range, IsCanonical}
use Rattle.sb_lang.specs.Regex.{Regex, none, eps, set, cat, neg, rep}
use Rattle.sb_lang.specs.Constructors.{mkcat, mkalt, mkand, mknot, mkpath}
use Rattle.sb_lang.specs.Derivative.{nd}
use Rattle.sb_regex.specs.Numbered.{regex_at, regexes_at, AllNumbers, Names}
use Rattle.sb_deriv.specs.declared.operation.Constants.{Constants}
use Rattle.sb_deriv.specs.declared.operation.Operation.{Operation}
use Rattle.sb_deriv.specs.declared.operation.Operation.TheVariants as operation
use Rattle.sb_deriv.specs.declared.operation.Shape.{Shape}
use Rattle.sb_deriv.specs.declared.operation.Shape.TheVariants as shape
use Rattle.sb_deriv.specs.Pieces.{value_at}
use Rattle.sb_deriv.specs.Targets.{ClassTarget}
use Rattle.sb_deriv.specs.Faithful.{Memo, entry_of}

-- what the operation makes of regexes: a complement, a concatenation or the words to a regex of the first alone
unfoldable pub made : List Regex → Operation → List Regex → Regex
made rs operation.Alt ps = mkalt ps
made rs operation.And ps = mkand ps
made rs operation.Not [] = none
made rs operation.Not (p ∷ ps) = mknot p
made rs (operation.Cat b) [] = none
made rs (operation.Cat b) (p ∷ ps) = mkcat p (regex_at rs b)
made rs (operation.Path b) [] = none
made rs (operation.Path b) (p ∷ ps) = mkpath p (regex_at rs b)

-- the numbers of three regexes
pub record AreConstants (rs : List Regex) (k : Constants) : Type 0 where
  pub none_is : Names rs k.none none
  pub eps_is : Names rs k.eps eps
  pub everything_is : Names rs k.everything (neg none)

-- the member makes no difference to what is made
unfoldable pub drops : Constants → Operation → ℕ → Bool
drops k operation.Alt t = t == k.none
drops k operation.And t = t == k.everything
drops k operation.Not t = false
drops k (operation.Cat b) t = false
drops k (operation.Path b) t = false

-- the member is what is made, whatever the others are
unfoldable pub absorbs : Constants → Operation → ℕ → Bool
absorbs k operation.Alt t = t == k.everything
absorbs k operation.And t = t == k.none
absorbs k operation.Not t = false
absorbs k (operation.Cat b) t = false
absorbs k (operation.Path b) t = false

-- those that make a difference
abbrev pub kept : Constants → Operation → List ℕ → List ℕ
kept k op ts = filter (λ t. not (drops k op t)) ts

-- the number that absorbs the others
unfoldable pub absorbing : Constants → Operation → ℕ
absorbing k operation.Alt = k.everything
absorbing k operation.And = k.none
absorbing k operation.Not = k.none
absorbing k (operation.Cat b) = k.none
absorbing k (operation.Path b) = k.none

-- the one that absorbs the others, if it is there, or those that make a difference
abbrev pub picked : Constants → Operation → List ℕ → List ℕ
picked k op ts = cond (list_any (absorbs k op) ts) (absorbing k op ∷ []) (kept k op ts)

-- the first member absorbs the others
unfoldable pub leads : Constants → Operation → List ℕ → Bool
leads k op [] = false
leads k op (t ∷ ts) = absorbs k op t

-- what is picked of two lists together
abbrev pub joined : Constants → Operation → List ℕ → List ℕ → List ℕ
joined k op xs ys = cond (leads k op xs) xs (cond (leads k op ys) ys (xs ++ ys))

-- the targets of the maps at a character
abbrev pub values_at : List (List (ℕ × ℕ)) → ℕ → List ℕ
values_at maps c = map (λ m. value_at m c) maps

-- from a character up to an end the map has one target
pub record IsSpan (m : List (ℕ × ℕ)) (c end t : ℕ) : Type 0 where
  pub later : c < end
  pub within : end ≤ 0x30000
  pub same : (x : ℕ) → c ≤ x → x < end → value_at m x ≡ t

-- from a character up to an end these are picked of the targets
pub record AreChosen (k : Constants) (op : Operation) (maps : List (List (ℕ × ℕ))) (c end : ℕ) (ids : List ℕ) : Type 0
  where
    pub later : c < end
    pub within : end ≤ 0x30000
    pub same : (x : ℕ) → c ≤ x → x < end → ids ≡ picked k op (values_at maps x)

-- a piece with its regexes, which stand side by side in a list
abbrev pub choice_of : List ℕ → ℕ × (ℕ × ℕ) → ℕ × List ℕ
choice_of ids p = (p.0, take (p.1.1 - p.1.0) (drop p.1.0 ids))

-- the regexes of a piece by its place
abbrev pub list_of : List (ℕ × List ℕ) → ℕ → List ℕ
list_of choices i = (get_or choices i (0, [])).1

-- the map of a part
abbrev pub map_of : Memo → ℕ → List (ℕ × ℕ)
map_of memo i = unwrap_or (entry_of memo i) []

-- the targets of the parts at a character
abbrev pub targets_at : Memo → List ℕ → ℕ → List ℕ
targets_at memo parts c = map (λ i. value_at (map_of memo i) c) parts

-- the derivatives of the parts by a character
abbrev pub nd_each : List Regex → ℕ → List Regex
nd_each ps c = map (λ p. nd p c) ps

-- the number of a regex is known to the operation
abbrev pub OperandIsKnown : List Regex → Operation → Type 0
OperandIsKnown rs operation.Alt = Unit {0}
OperandIsKnown rs operation.And = Unit {0}
OperandIsKnown rs operation.Not = Unit {0}
OperandIsKnown rs (operation.Cat b) = b < length rs
OperandIsKnown rs (operation.Path b) = b < length rs

-- each target is what is made of the regexes of its piece
abbrev pub AreMade : List Regex → Operation → List (ℕ × List ℕ) → List (ℕ × ℕ) → Type 0
AreMade rs op choices ms =
    All (λ m. (m.0 < length choices) × AllNumbers rs (list_of choices m.0)
    × Names rs m.1 (made rs op (regexes_at rs (list_of choices m.0)))) ms

-- a target of a piece with these regexes
pub record IsFound (choices : List (ℕ × List ℕ)) (ms : List (ℕ × ℕ)) (ids : List ℕ) (t : ℕ) : Type 0 where
  pub place : ℕ
  pub within : place < length ms
  pub is : (get_or ms place (0, 0)).1 ≡ t
  pub same : list_of choices (get_or ms place (0, 0)).0 ≡ ids

-- the derivatives of the parts are known
abbrev pub HaveEntries : Memo → List ℕ → Type 0
HaveEntries memo parts = All (λ i. IsSome (entry_of memo i)) parts

-- the number is below a bound, and its derivative is not known
abbrev pub IsWanted : ℕ → Memo → ℕ → Type 0
IsWanted n memo q = (q < n) × (entry_of memo q ≡ None)

-- how many numbers have no entry
abbrev pub lacking : Memo → ℕ
lacking [] = 0
lacking (None ∷ memo) = suc (lacking memo)
lacking (Some pieces ∷ memo) = lacking memo

-- where the first piece begins, or the end
abbrev pub first_of : {A : Type 0} → ℕ → List (ℕ × A) → ℕ
first_of end [] = end
first_of end (p ∷ ps) = p.0

-- how many pieces begin at the number, of ascending ones from there on
abbrev pub count_at : {A : Type 0} → ℕ → List (ℕ × A) → ℕ
count_at c [] = 0
count_at c (p ∷ ps) = cond (p.0 == c) 1 0

-- the value of the last piece
unfoldable pub last_value : {A : Type 0} → A → List (ℕ × A) → A
last_value d [] = d
last_value d (p ∷ ps) = last_value p.1 ps

-- there is a last piece, with this value
unfoldable pub ends_with : ℕ → List (ℕ × ℕ) → Bool
ends_with t [] = false
ends_with t (p ∷ ps) = last_value p.1 ps == t

-- what a regex's derivative is made from
pub record IsMade (rs : List Regex) (n : ℕ) (op : Operation) (ps : List ℕ) : Type 0 where
  pub below : All (λ i. i < n) ps
  pub operand : OperandIsKnown rs op
  pub value : (c : ℕ) → nd (regex_at rs n) c ≡ made rs op (nd_each (regexes_at rs ps) c)

abbrev pub IsShape : List Regex → ℕ → Shape → Type 0
IsShape rs n shape.Nowhere = (c : ℕ) → nd (regex_at rs n) c ≡ none
IsShape rs n (shape.Set ranges) = IsCanonical ranges.items × (regex_at rs n ≡ set ranges.items)
IsShape rs n (shape.Cat a b) = (a < n) × (b < n) × (regex_at rs n ≡ cat (regex_at rs a) (regex_at rs b))
IsShape rs n (shape.Rep a least most) = (a < n) × (0 < most) × (regex_at rs n ≡ rep (regex_at rs a) least most)
IsShape rs n (shape.Made op parts) = IsMade rs n op parts.items

-- one more range: behind those of its target, or with the target at the end
unfoldable pub with_range : ℕ → Range → List ClassTarget → List ClassTarget
with_range t r [] = (r ∷ [], t) ∷ []
with_range t r (g ∷ gs) = cond (t == g.1) ((g.0 ++ r ∷ [], g.1) ∷ gs) (g ∷ with_range t r gs)
