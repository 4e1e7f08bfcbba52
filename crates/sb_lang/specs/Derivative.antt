-- Whether a regex has the empty word, and its derivative by a character ("Symbolic Boolean Derivatives", Stanford,
-- Veanes and Bjørner, PLDI 2021), as normal regexes.
use Rattle.std.specs.Prelude.{ℕ, zero, suc, ◌-◌, Bool, true, false, not, ◌&&◌, ◌||◌, ◌==◌, nat_le, if◌then◌else◌, List, [], ◌∷◌}
use Rattle.sb_class.specs.Ranges.{in_ranges}
use Rattle.sb_lang.specs.Regex.{Regex, Regexes, none, eps, set, cat, alt, and, neg, star, rep, path, no_more, more}
use Rattle.sb_lang.specs.Order.{regex_eq}
use Rattle.sb_lang.specs.Constructors.{mkcat, mkalt, mkand, mknot, mkrep, mkpath}

-- A repetition is taken to have its bounds in order, and to be of once at least: others are not normal, and have
-- no word, or the empty one alone.
unfoldable mutual
  pub nullable : Regex → Bool
  nullable none = false
  nullable eps = true
  nullable (set rs) = false
  nullable (cat a b) = nullable a && nullable b
  nullable (alt ps) = some_nullable ps
  nullable (and ps) = all_nullable ps
  nullable (neg a) = not (nullable a)
  nullable (star a) = true
  nullable (rep a n m) = nat_le n m && ((n == 0) || nullable a)
  nullable (path a b) = regex_eq a b

  pub some_nullable : Regexes → Bool
  some_nullable no_more = false
  some_nullable (more r rs) = nullable r || some_nullable rs

  pub all_nullable : Regexes → Bool
  all_nullable no_more = true
  all_nullable (more r rs) = nullable r && all_nullable rs

unfoldable mutual
  pub nd : Regex → ℕ → Regex
  nd none c = none
  nd eps c = none
  nd (set rs) c = if in_ranges rs c then eps else none
  nd (cat a b) c = if nullable a then mkalt (mkcat (nd a c) b ∷ nd b c ∷ []) else mkcat (nd a c) b
  nd (alt ps) c = mkalt (nds ps c)
  nd (and ps) c = mkand (nds ps c)
  nd (neg a) c = mknot (nd a c)
  nd (star a) c = mkcat (nd a c) (star a)
  nd (rep a n zero) c = none
  nd (rep a n (suc m)) c = mkcat (nd a c) (mkrep a (n - 1) m)
  nd (path a b) c = mkpath (nd a c) b

  pub nds : Regexes → ℕ → List Regex
  nds no_more c = []
  nds (more r rs) c = nd r c ∷ nds rs c

-- the derivative along a word
unfoldable pub nd_along : Regex → List ℕ → Regex
nd_along r [] = r
nd_along r (c ∷ w) = nd_along (nd r c) w
