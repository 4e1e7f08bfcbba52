-- The constructors, the derivative and the normal regex of a term give normal regexes, of normal parts.
use Rattle.std.specs.Prelude.{◌≡◌, ℕ, true, List}
use Rattle.std.specs.List.{list_all}
use Rattle.sb_class.specs.Ranges.{Range, IsCanonical}
use Rattle.sb_lang.specs.RegLan.{RegLan}
use Rattle.sb_lang.specs.Regex.{Regex}
use Rattle.sb_lang.specs.Constructors.{mkset, mkcat, mkalt, mkand, mknot, mkstar, mkrep, mkpath}
use Rattle.sb_lang.specs.Normal.{normal}
use Rattle.sb_lang.specs.Derivative.{nd}
use Rattle.sb_lang.specs.NormalForm.{is_normal, IsNormal, has_words}

pub record ConstructorsGiveNormal : Type 0 where
  pub sets : (rs : List Range) → IsCanonical rs → IsNormal (mkset rs)
  pub concatenations : (a b : Regex) → IsNormal a → IsNormal b → IsNormal (mkcat a b)
  pub unions : (rs : List Regex) → list_all is_normal rs ≡ true → IsNormal (mkalt rs)
  pub intersections : (rs : List Regex) → list_all is_normal rs ≡ true → IsNormal (mkand rs)
  pub complements : (a : Regex) → IsNormal a → IsNormal (mknot a)
  pub stars : (a : Regex) → IsNormal a → IsNormal (mkstar a)
  pub repetitions : (a : Regex) (n m : ℕ) → IsNormal a → IsNormal (mkrep a n m)
  pub paths : (a b : Regex) → IsNormal a → IsNormal b → IsNormal (mkpath a b)

abbrev pub DerivativeIsNormal : Type 0
DerivativeIsNormal = (r : Regex) (c : ℕ) → IsNormal r → IsNormal (nd r c)

-- of a term whose words are of characters
abbrev pub NormalIsNormal : Type 0
NormalIsNormal = (R : RegLan) → has_words R ≡ true → IsNormal (normal R)
