-- The language of a regex. On `path` it is the words along which the derivative takes the first regex to the second.
use Rattle.std.specs.Prelude.{true, false, not, ◌&&◌, ◌||◌}
use Rattle.sb_class.specs.Ranges.{in_ranges}
use Rattle.sb_lang.specs.Languages.{Language, empty_word, one_character, cut, iterate, repeat}
use Rattle.sb_lang.specs.Regex.{Regex, Regexes, none, eps, set, cat, alt, and, neg, star, rep, path, no_more, more}
use Rattle.sb_lang.specs.Order.{regex_eq}
use Rattle.sb_lang.specs.Derivative.{nd_along}

unfoldable mutual
  pub language : Regex → Language
  language none w = false
  language eps w = empty_word w
  language (set rs) w = one_character (in_ranges rs) w
  language (cat a b) w = cut (language a) (language b) w
  language (alt ps) w = some_language ps w
  language (and ps) w = all_languages ps w
  language (neg a) w = not (language a w)
  language (star a) w = iterate (language a) w
  language (rep a n m) w = repeat (language a) n m w
  language (path a b) w = regex_eq (nd_along a w) b

  -- the word is in the language of some member
  pub some_language : Regexes → Language
  some_language no_more w = false
  some_language (more r rs) w = language r w || some_language rs w

  -- the word is in the language of each member
  pub all_languages : Regexes → Language
  all_languages no_more w = true
  all_languages (more r rs) w = language r w && all_languages rs w
