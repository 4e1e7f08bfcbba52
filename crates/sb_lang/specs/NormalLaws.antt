-- The normal regex of a RegLan term has the term's words.
use Rattle.std.specs.Prelude.{◌≡◌, ℕ, List}
use Rattle.sb_word.specs.Words.{IsWord}
use Rattle.sb_lang.specs.RegLan.{RegLan}
use Rattle.sb_lang.specs.Membership.{in_re}
use Rattle.sb_lang.specs.Normal.{normal}
use Rattle.sb_lang.specs.Language.{language}

abbrev pub NormalHasTermsWords : Type 0
NormalHasTermsWords = (R : RegLan) (w : List ℕ) → IsWord w → language (normal R) w ≡ in_re R w
