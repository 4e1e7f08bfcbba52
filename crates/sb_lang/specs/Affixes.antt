-- Parts of words: prefixes, suffixes and factors of a word, and the words of which a word is one (SMT-LIB theory of
-- Unicode Strings, str.prefixof, str.suffixof and str.contains), as tests and as regexes.
use Rattle.std.specs.Prelude.{ℕ, Bool, true, false, ◌&&◌, ◌||◌, ◌==◌, List, [], ◌∷◌, map}
use Rattle.sb_lang.specs.Membership.{is_word}
use Rattle.sb_lang.specs.Regex.{Regex, eps, set}
use Rattle.sb_lang.specs.Constructors.{anything, mkcat, mkalt}
use Rattle.sb_lang.specs.Normal.{word_regex}

-- the first word is a prefix of the second; it is a suffix; it stands somewhere in it
abbrev pub is_prefix : List ℕ → List ℕ → Bool
is_prefix [] w = true
is_prefix (c ∷ v) [] = false
is_prefix (c ∷ v) (d ∷ w) = (c == d) && is_prefix v w

abbrev pub is_suffix : List ℕ → List ℕ → Bool
is_suffix v [] = is_word v []
is_suffix v (d ∷ w) = is_word v (d ∷ w) || is_suffix v w

abbrev pub is_inside : List ℕ → List ℕ → Bool
is_inside v [] = is_prefix v []
is_inside v (d ∷ w) = is_prefix v (d ∷ w) || is_inside v w

-- the words that begin with this one, that end with it, and in which it stands somewhere
unfoldable pub beginning_with : List ℕ → Regex
beginning_with w = mkcat (word_regex w) anything

unfoldable pub ending_with : List ℕ → Regex
ending_with w = mkcat anything (word_regex w)

unfoldable pub containing : List ℕ → Regex
containing w = mkcat anything (mkcat (word_regex w) anything)

-- what is left of the word behind each of its prefixes: the word itself first, and the empty word last
unfoldable pub ends_of : List ℕ → List (List ℕ)
ends_of [] = [] ∷ []
ends_of (c ∷ w) = (c ∷ w) ∷ ends_of w

-- the prefixes of the word, its suffixes, and its factors
unfoldable pub prefixes : List ℕ → Regex
prefixes [] = eps
prefixes (c ∷ w) = mkalt (eps ∷ mkcat (set ((c, c) ∷ [])) (prefixes w) ∷ [])

unfoldable pub suffixes : List ℕ → Regex
suffixes w = mkalt (map word_regex (ends_of w))

unfoldable pub factors : List ℕ → Regex
factors w = mkalt (map prefixes (ends_of w))
