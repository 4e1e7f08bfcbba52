-- Clauses of one constant's memberships: that its word leads to one of some regexes, and that it does not lead to two.
use Rattle.std.specs.Prelude.{◌≡◌, ℕ, true, List, [], ◌∷◌, ◌++◌, map}
use Rattle.std.specs.List.{Contains}
use Rattle.sb_word.specs.Words.{IsWord}
use Rattle.sb_lang.specs.Constructors.{mkpath}
use Rattle.sb_lang.specs.Derivative.{nd_along}
use Rattle.sb_lang.specs.Language.{language}
use Rattle.sb_regex.specs.Numbered as regex
use Rattle.sb_clash.specs.Literals.{asked_by_all}
use Rattle.sb_split.specs.Words.{AtomOver, Lit, Names, Regex, constant_piece, in_atom, in_order, negation, regex_at, regexes_at}

-- each word that makes the guards true leads from the regex r to one of the list
abbrev pub Covers : List Regex → List (AtomOver ℕ) → ℕ → List Lit → List ℕ → Type 0
Covers rs atoms r guards list = (w : List ℕ) → IsWord w → language (asked_by_all rs atoms guards) w ≡ true
    → Contains (regexes_at rs list) (nd_along (regex_at rs r) w)

-- the literal is true exactly where the word of the constant x leads from r to q
pub record IsPath (rs : List Regex) (atoms : List (AtomOver ℕ)) (x r q : ℕ) (l : Lit) : Type 0 where
  pub number : ℕ
  pub names : Names atoms l.atom (in_atom (constant_piece x ∷ []) number)
  pub path : regex.Names rs number (mkpath (regex_at rs r) (regex_at rs q))
  pub positive : l.positive ≡ true

-- so of one regex after the other
abbrev pub ArePaths : List Regex → List (AtomOver ℕ) → ℕ → ℕ → List ℕ → List Lit → Type 0
ArePaths rs atoms x r [] [] = Unit {0}
ArePaths rs atoms x r (q ∷ qs) (l ∷ ls) = IsPath rs atoms x r q l × ArePaths rs atoms x r qs ls
ArePaths rs atoms x r _ _ = ⊥

-- The clause has the negations of the guards and the paths to the regexes of the list, in order.
pub record IsCover (rs : List Regex) (atoms : List (AtomOver ℕ)) (x r : ℕ) (guards : List Lit) (list : List ℕ)
    (clause : List Lit) : Type 0
  where
    pub paths : List Lit
    pub are : ArePaths rs atoms x r list paths
    pub is : clause ≡ in_order (map negation guards ++ paths)

-- The clause has the negations of the paths to two regexes, in order.
pub record IsPair (rs : List Regex) (atoms : List (AtomOver ℕ)) (x r p q : ℕ) (clause : List Lit) : Type 0 where
  pub one : Lit
  pub other : Lit
  pub to_one : IsPath rs atoms x r p one
  pub to_other : IsPath rs atoms x r q other
  pub is : clause ≡ in_order (negation one ∷ negation other ∷ [])
