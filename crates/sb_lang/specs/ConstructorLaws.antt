-- Each normalising constructor keeps the language: it has the words of the plain node. They are laws of all
-- regexes and all lists of numbers, but that of the star, which is one of words: a star of every character is
-- every word.
use Rattle.std.specs.Prelude.{◌≡◌, ℕ, List}
use Rattle.std.specs.List.{list_all}
use Rattle.sb_class.specs.Ranges.{Range}
use Rattle.sb_word.specs.Words.{IsWord}
use Rattle.sb_lang.specs.Regex.{Regex, set, cat, alt, and, neg, star, rep, path, regexes}
use Rattle.sb_lang.specs.Constructors.{mkset, mkcat, mkalt, mkand, mknot, mkstar, mkrep, mkpath}
use Rattle.sb_lang.specs.Language.{language}

-- an intersection has the words of each member
abbrev pub IntersectionIsOfEach : Type 0
IntersectionIsOfEach = (rs : List Regex) (w : List ℕ) → language (and (regexes rs)) w ≡ list_all (λ r. language r w) rs

abbrev pub MksetKeepsLanguage : Type 0
MksetKeepsLanguage = (rs : List Range) (w : List ℕ) → language (mkset rs) w ≡ language (set rs) w

abbrev pub MkcatKeepsLanguage : Type 0
MkcatKeepsLanguage = (a b : Regex) (w : List ℕ) → language (mkcat a b) w ≡ language (cat a b) w

abbrev pub MkaltKeepsLanguage : Type 0
MkaltKeepsLanguage = (rs : List Regex) (w : List ℕ) → language (mkalt rs) w ≡ language (alt (regexes rs)) w

abbrev pub MkandKeepsLanguage : Type 0
MkandKeepsLanguage = (rs : List Regex) (w : List ℕ) → language (mkand rs) w ≡ language (and (regexes rs)) w

abbrev pub MknotKeepsLanguage : Type 0
MknotKeepsLanguage = (a : Regex) (w : List ℕ) → language (mknot a) w ≡ language (neg a) w

abbrev pub MkstarKeepsLanguage : Type 0
MkstarKeepsLanguage = (a : Regex) (w : List ℕ) → IsWord w → language (mkstar a) w ≡ language (star a) w

abbrev pub MkrepKeepsLanguage : Type 0
MkrepKeepsLanguage = (a : Regex) (n m : ℕ) (w : List ℕ) → language (mkrep a n m) w ≡ language (rep a n m) w

abbrev pub MkpathKeepsLanguage : Type 0
MkpathKeepsLanguage = (a b : Regex) (w : List ℕ) → language (mkpath a b) w ≡ language (path a b) w
