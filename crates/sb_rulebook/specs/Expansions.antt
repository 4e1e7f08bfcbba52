-- The expansion of a regex: classes of characters, each with the regex that is the derivative by its characters
-- ("Symbolic Boolean Derivatives", Stanford, Veanes and Bjørner, PLDI 2021).
use Rattle.std.specs.Prelude.{◌≡◌, ℕ, ◌+◌, Bool, true, false, ◌&&◌, List, [], ◌∷◌, ◌++◌, filter}
use Rattle.std.specs.List.{list_all, flat_map}
use Rattle.sb_class.specs.Ranges.{Range, in_ranges, rises_from}
use Rattle.sb_word.specs.Words.{is_character}
use Rattle.sb_lang.specs.Regex.{Regex, Regexes, none, eps, set, cat, alt, and, neg, star, rep, path, no_more, more}
use Rattle.sb_lang.specs.Order.{regex_eq}
use Rattle.sb_lang.specs.Derivative.{nd}

-- a class of characters, and where they lead
abbrev pub Branch : Type 0
Branch = List Range × Regex

-- a character leads to the derivative by it, and to nothing else
abbrev pub leads_right : Regex → ℕ → List Branch → Bool
leads_right r c (p ∷ []) = regex_eq (nd r c) p.1
leads_right r c _ = false

-- the character is in one class, which leads to the derivative by it
abbrev pub is_right_at : Regex → List Branch → ℕ → Bool
is_right_at r ps c = leads_right r c (filter (λ p. in_ranges p.0 c) ps)

-- each class is canonical
abbrev pub are_classes : List Branch → Bool
are_classes ps = list_all (λ p. rises_from 0 p.0) ps

-- The branches are the expansion of the regex: each character is in one class, which leads to the derivative by it.
pub record IsExpansion (r : Regex) (ps : List Branch) : Type 0 where
  pub classes : are_classes ps ≡ true
  pub right : (c : ℕ) → is_character c ≡ true → is_right_at r ps c ≡ true

-- where ranges begin, and where they have ended
abbrev pub ends_of : List Range → List ℕ
ends_of [] = []
ends_of (r ∷ rs) = r.0 ∷ (r.1 + 1) ∷ ends_of rs

-- the ends of the sets by which a regex has its derivatives
abbrev mutual
  pub ends_in : Regex → List ℕ
  ends_in none = []
  ends_in eps = []
  ends_in (set rs) = ends_of rs
  ends_in (cat a b) = ends_in a ++ ends_in b
  ends_in (alt ps) = ends_in_all ps
  ends_in (and ps) = ends_in_all ps
  ends_in (neg a) = ends_in a
  ends_in (star a) = ends_in a
  ends_in (rep a n m) = ends_in a
  ends_in (path a b) = ends_in a

  pub ends_in_all : Regexes → List ℕ
  ends_in_all no_more = []
  ends_in_all (more r rs) = ends_in r ++ ends_in_all rs

-- the first character, and each that is an end of a class or of a set in the regex
abbrev pub points_of : Regex → List Branch → List ℕ
points_of r ps = filter is_character (0 ∷ (flat_map (λ p. ends_of p.0) ps ++ ends_in r))

-- The same by a test, which looks at these points alone: between two neighbours of them no class and no set of the
-- regex tells characters apart, so neither does the derivative.
abbrev pub is_expansion : Regex → List Branch → Bool
is_expansion r ps = are_classes ps && list_all (is_right_at r ps) (points_of r ps)
