-- The normal regex of a RegLan term.
use Rattle.std.specs.Prelude.{ℕ, nat_le, if◌then◌else◌, List, [], ◌∷◌}
use Rattle.sb_lang.specs.RegLan.{RegLan, re_none, re_all, re_allchar, re_word, re_concat, re_union, re_inter, re_diff, re_star, re_plus, re_opt, re_comp, re_range, re_power, re_loop}
use Rattle.sb_lang.specs.Regex.{Regex, none, eps, set}
use Rattle.sb_lang.specs.Constructors.{anything, any_character, mkcat, mkalt, mkand, mknot, mkstar, mkrep}

-- the sets of one character, one behind the other
unfoldable pub word_regex : List ℕ → Regex
word_regex [] = eps
word_regex (c ∷ w) = mkcat (set ((c, c) ∷ [])) (word_regex w)

unfoldable pub range_regex : List ℕ → List ℕ → Regex
range_regex (a ∷ []) (b ∷ []) = if nat_le a b then set ((a, b) ∷ []) else none
range_regex s t = none

unfoldable pub normal : RegLan → Regex
normal re_none = none
normal re_all = anything
normal re_allchar = any_character
normal (re_word w) = word_regex w
normal (re_concat R S) = mkcat (normal R) (normal S)
normal (re_union R S) = mkalt (normal R ∷ normal S ∷ [])
normal (re_inter R S) = mkand (normal R ∷ normal S ∷ [])
normal (re_diff R S) = mkand (normal R ∷ mknot (normal S) ∷ [])
normal (re_star R) = mkstar (normal R)
normal (re_plus R) = mkcat (normal R) (mkstar (normal R))
normal (re_opt R) = mkalt (normal R ∷ eps ∷ [])
normal (re_comp R) = mknot (normal R)
normal (re_range s t) = range_regex s t
normal (re_power R n) = mkrep (normal R) n n
normal (re_loop R n m) = mkrep (normal R) n m
