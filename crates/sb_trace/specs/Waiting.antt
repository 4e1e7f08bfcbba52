-- Private: regexes that wait for a number, from the top of their stack on.
use Rattle.std.specs.Prelude.{◌≡◌, ℕ, suc, ◌+◌, ◌*◌, ◌<◌, Bool, true, false, ◌||◌, nat_eq, nat_lt, if◌then◌else◌, List, [], ◌∷◌, length, map, reverse, is_some}
use Rattle.std.specs.List.{list_all, list_any}
use Rattle.sb_lang.specs.Regex.{Regex, Regexes, none, eps, set, cat, alt, and, neg, star, rep, path, no_more, more}
use Rattle.sb_regex.specs.Numbered.{regex_at}
use Rattle.sb_regex.specs.declared.node.Node.{Node}
use Rattle.sb_regex.specs.Nodes.{node_parts}
use Rattle.sb_trace.specs.declared.frame.Frame.{Frame}
use Rattle.sb_trace.specs.Tracking.{number_in, IsLackingFor, AddsLacking}
use Rattle.sb_trace.specs.Defining.{IsNodeAt}

-- the stack of a list whose last element is on top
abbrev pub stack_of : List Frame → List Frame
stack_of frames = reverse frames

-- a regex that waits, and was not entered
abbrev pub waits : ℕ → Frame
waits n = record { regex = n; entered = false }

abbrev pub numbers_in : List Frame → List ℕ
numbers_in frames = map (λ f. f.regex) frames

-- the regex has a number, or is among these
abbrev pub is_in : List ℕ → List ℕ → ℕ → Bool
is_in order above n = is_some (number_in order n) || list_any (nat_eq n) above

-- each part has a number, or is among these
abbrev pub HasPartsIn : List Regex → List ℕ → List ℕ → ℕ → Type 0
HasPartsIn rs order above n =
    (node : Node) → IsNodeAt rs n node → list_all (is_in order above) (node_parts node) ≡ true

-- each part of a regex that was entered has a number, or waits above it
abbrev pub AreEntered : List Regex → List ℕ → List ℕ → List Frame → Type 0
AreEntered rs order above [] = Unit {0}
AreEntered rs order above (f ∷ fs) =
    (f.entered ≡ true → HasPartsIn rs order above f.regex) × AreEntered rs order (f.regex ∷ above) fs

abbrev pub is_known : List Regex → Frame → Bool
is_known rs f = nat_lt f.regex (length rs)

pub record IsStack (rs : List Regex) (order : List ℕ) (stack : List Frame) : Type 0 where
  pub known : list_all (is_known rs) stack ≡ true
  pub entered : AreEntered rs order [] stack

-- each regex that waits lacked a number where this one is to have it
abbrev pub AreLacking : List Regex → List ℕ → ℕ → List Frame → Type 0
AreLacking rs first root [] = Unit {0}
AreLacking rs first root (f ∷ fs) = IsLackingFor rs first root f.regex × AreLacking rs first root fs

abbrev pub KeepsNumbers : List ℕ → List ℕ → Type 0
KeepsNumbers old new = (n : ℕ) → is_some (number_in old n) ≡ true → is_some (number_in new n) ≡ true

-- how many regexes there are in one, as a tree
abbrev mutual
  pub weight : Regex → ℕ
  weight none = 1
  weight eps = 1
  weight (set rs) = 1
  weight (cat a b) = suc (weight a + weight b)
  weight (alt ps) = suc (weights ps)
  weight (and ps) = suc (weights ps)
  weight (neg a) = suc (weight a)
  weight (star a) = suc (weight a)
  weight (rep a n m) = suc (weight a)
  weight (path a b) = suc (weight a + weight b)

  pub weights : Regexes → ℕ
  weights no_more = 0
  weights (more r rs) = weight r + weights rs

-- how often the stack may still be looked at for a regex: once where it was entered, else for each regex in it when it
-- is put there, and when it is taken away
abbrev pub frame_weight : List Regex → Frame → ℕ
frame_weight rs f = if f.entered then 1 else 2 * weight (regex_at rs f.regex)

abbrev pub stack_weight : List Regex → List Frame → ℕ
stack_weight rs [] = 0
stack_weight rs (f ∷ fs) = frame_weight rs f + stack_weight rs fs

-- The stack becomes lighter; what has a number or waits does so behind it, and no other does.
pub record Settles (rs : List Regex) (old new : List ℕ) (before after : List Frame) : Type 0 where
  pub stack : IsStack rs new after
  pub keeps : (n : ℕ) → is_in old (numbers_in before) n ≡ true → is_in new (numbers_in after) n ≡ true
  pub lighter : stack_weight rs after < stack_weight rs before
  pub lacking : (first : List ℕ) (root : ℕ) → KeepsNumbers first old → AreLacking rs first root before
      → AreLacking rs first root after
  pub only : (first : List ℕ) (root : ℕ) → AreLacking rs first root before → AddsLacking rs first root old new
