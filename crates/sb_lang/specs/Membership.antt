-- The words of a RegLan term (SMT-LIB theory of Unicode Strings, regular expressions). The theory's words are
-- lists of characters; the test stands on every list of numbers.
use Rattle.std.specs.Prelude.{ℕ, true, false, not, ◌&&◌, ◌||◌, ◌==◌, nat_le, List, [], ◌∷◌, length}
use Rattle.sb_lang.specs.Languages.{Language, empty_word, one_character, cut, power, iterate, repeat}
use Rattle.sb_lang.specs.RegLan.{RegLan, re_none, re_all, re_allchar, re_word, re_concat, re_union, re_inter, re_diff, re_star, re_plus, re_opt, re_comp, re_range, re_power, re_loop}

-- the two words are one
abbrev pub is_word : List ℕ → Language
is_word [] [] = true
is_word [] (c ∷ w) = false
is_word (a ∷ s) [] = false
is_word (a ∷ s) (c ∷ w) = (a == c) && is_word s w

-- the words of one character from that of the first word to that of the second, where both have one
abbrev pub between : List ℕ → List ℕ → Language
between (a ∷ []) (b ∷ []) = one_character (λ c. nat_le a c && nat_le c b)
between s t = λ w. false

-- the word is in the term
unfoldable pub in_re : RegLan → Language
in_re re_none w = false
in_re re_all w = true
in_re re_allchar w = length w == 1
in_re (re_word s) w = is_word s w
in_re (re_concat R S) w = cut (in_re R) (in_re S) w
in_re (re_union R S) w = in_re R w || in_re S w
in_re (re_inter R S) w = in_re R w && in_re S w
in_re (re_diff R S) w = in_re R w && not (in_re S w)
in_re (re_star R) w = iterate (in_re R) w
in_re (re_plus R) w = cut (in_re R) (iterate (in_re R)) w
in_re (re_opt R) w = in_re R w || empty_word w
in_re (re_comp R) w = not (in_re R w)
in_re (re_range s t) w = between s t w
in_re (re_power R n) w = power (in_re R) n w
in_re (re_loop R n m) w = repeat (in_re R) n m w
