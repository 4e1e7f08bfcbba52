-- Regular expressions as the solver keeps them: RegLan terms brought into one form ("Symbolic Boolean
-- Derivatives", Stanford, Veanes and Bjørner, PLDI 2021). Not each tree is normal: the normal ones are those that
-- the normalising constructors build.
use Rattle.std.specs.Prelude.{ℕ, List, [], ◌∷◌}
use Rattle.sb_class.specs.Ranges.{Range}

mutual
  pub data Regex : Type 0 where
    -- no word
    none : Regex
    -- the empty word alone
    eps : Regex
    -- the words of one character of a set
    set : List Range → Regex
    -- concatenation
    cat : Regex → Regex → Regex
    -- union
    alt : Regexes → Regex
    -- intersection
    and : Regexes → Regex
    -- complement (not)
    neg : Regex → Regex
    star : Regex → Regex
    -- from n to m times
    rep : Regex → ℕ → ℕ → Regex
    -- the words along which the derivative takes the first regex to the second
    path : Regex → Regex → Regex

  -- a list of regexes
  pub data Regexes : Type 0 where
    no_more : Regexes
    more : Regex → Regexes → Regexes

unfoldable pub regexes : List Regex → Regexes
regexes [] = no_more
regexes (r ∷ rs) = more r (regexes rs)

unfoldable pub parts : Regexes → List Regex
parts no_more = []
parts (more r rs) = r ∷ parts rs
