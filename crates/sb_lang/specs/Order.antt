-- The order of regexes: by the kind's place among none, eps, set, cat, alt, and, not, star, rep, path, then by the
-- parts from left to right; a set as the list of its range ends, a list of parts as a word, of which a proper
-- prefix comes first, and a repetition as its body, n and m. It is the lexicographic order of a code in which a
-- number stands for itself, and of a list each member stands behind a 1, and a 0 at the end.
use Rattle.std.specs.Prelude.{ℕ, Bool, List, [], ◌∷◌, ◌++◌}
use Rattle.std.specs.declared.cmp.Ordering.{Ordering}
use Rattle.std.specs.Ordering.{nat_cmp, is_eq}
use Rattle.std.specs.Cmp.Lexicographic.{slice_cmp}
use Rattle.sb_class.specs.Ranges.{Range}
use Rattle.sb_lang.specs.Regex.{Regex, Regexes, none, eps, set, cat, alt, and, neg, star, rep, path, no_more, more}

unfoldable pub range_code : List Range → List ℕ
range_code [] = 0 ∷ []
range_code (r ∷ rs) = 1 ∷ r.0 ∷ r.1 ∷ range_code rs

unfoldable mutual
  pub code : Regex → List ℕ
  code none = 0 ∷ []
  code eps = 1 ∷ []
  code (set rs) = 2 ∷ range_code rs
  code (cat a b) = 3 ∷ (code a ++ code b)
  code (alt ps) = 4 ∷ codes ps
  code (and ps) = 5 ∷ codes ps
  code (neg a) = 6 ∷ code a
  code (star a) = 7 ∷ code a
  code (rep a n m) = 8 ∷ (code a ++ n ∷ m ∷ [])
  code (path a b) = 9 ∷ (code a ++ code b)

  pub codes : Regexes → List ℕ
  codes no_more = 0 ∷ []
  codes (more r rs) = 1 ∷ (code r ++ codes rs)

abbrev pub regex_cmp : Regex → Regex → Ordering
regex_cmp a b = slice_cmp nat_cmp (code a) (code b)

-- the two are one regex
abbrev pub regex_eq : Regex → Regex → Bool
regex_eq a b = is_eq (regex_cmp a b)
