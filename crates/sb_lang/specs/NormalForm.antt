-- Which regexes are normal: each node is what its constructor makes of its parts, and each set is canonical.
use Rattle.std.specs.Prelude.{◌≡◌, Bool, true, ◌&&◌}
use Rattle.sb_class.specs.Ranges.{rises_from}
use Rattle.sb_word.specs.Words.{are_characters}
use Rattle.sb_lang.specs.RegLan.{RegLan, re_none, re_all, re_allchar, re_word, re_concat, re_union, re_inter, re_diff, re_star, re_plus, re_opt, re_comp, re_range, re_power, re_loop}
use Rattle.sb_lang.specs.Regex.{Regex, Regexes, none, eps, set, cat, alt, and, neg, star, rep, path, no_more, more, parts}
use Rattle.sb_lang.specs.Order.{regex_eq}
use Rattle.sb_lang.specs.Constructors.{mkset, mkcat, mkalt, mkand, mknot, mkstar, mkrep, mkpath}

unfoldable mutual
  pub is_normal : Regex → Bool
  is_normal none = true
  is_normal eps = true
  is_normal (set rs) = rises_from 0 rs && regex_eq (mkset rs) (set rs)
  is_normal (cat a b) = (is_normal a && is_normal b) && regex_eq (mkcat a b) (cat a b)
  is_normal (alt ps) = all_normal ps && regex_eq (mkalt (parts ps)) (alt ps)
  is_normal (and ps) = all_normal ps && regex_eq (mkand (parts ps)) (and ps)
  is_normal (neg a) = is_normal a && regex_eq (mknot a) (neg a)
  is_normal (star a) = is_normal a && regex_eq (mkstar a) (star a)
  is_normal (rep a n m) = is_normal a && regex_eq (mkrep a n m) (rep a n m)
  is_normal (path a b) = (is_normal a && is_normal b) && regex_eq (mkpath a b) (path a b)

  pub all_normal : Regexes → Bool
  all_normal no_more = true
  all_normal (more r rs) = is_normal r && all_normal rs

abbrev pub IsNormal : Regex → Type 0
IsNormal r = is_normal r ≡ true

-- each word in the term is one of characters
unfoldable pub has_words : RegLan → Bool
has_words re_none = true
has_words re_all = true
has_words re_allchar = true
has_words (re_word w) = are_characters w
has_words (re_concat R S) = has_words R && has_words S
has_words (re_union R S) = has_words R && has_words S
has_words (re_inter R S) = has_words R && has_words S
has_words (re_diff R S) = has_words R && has_words S
has_words (re_star R) = has_words R
has_words (re_plus R) = has_words R
has_words (re_opt R) = has_words R
has_words (re_comp R) = has_words R
has_words (re_range s t) = are_characters s && are_characters t
has_words (re_power R n) = has_words R
has_words (re_loop R n m) = has_words R
