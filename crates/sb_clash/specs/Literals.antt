-- What literals of one constant's memberships ask of its word.
use Rattle.std.specs.Prelude.{ℕ, ◌≤◌, if◌then◌else◌, List, [], ◌∷◌, map, get_or}
use Rattle.std.specs.List.{All, count_by}
use Rattle.sb_clash.specs.Words.{AtomOver, Lit, Regex, bool_atom, in_atom, is_same_literal, regex_at}
use Rattle.sb_lang.specs.Constructors.{mkand, mknot}
use Rattle.sb_lang.specs.Language.{language}
use Rattle.sb_lang.specs.Least.{HasNoWord}
use Rattle.sb_script.specs.Pieces.{constant_piece}
use Rattle.sb_atoms.specs.Numbered.{Names}

-- the literal's atom is a membership of the constant alone
pub record IsAbout (atoms : List (AtomOver ℕ)) (x : ℕ) (l : Lit) : Type 0 where
  pub regex : ℕ
  pub names : Names atoms l.atom (in_atom (constant_piece x ∷ []) regex)

abbrev pub AreAbout : List (AtomOver ℕ) → ℕ → List Lit → Type 0
AreAbout atoms x ls = All (IsAbout atoms x) ls

-- the number of the regex in an atom
abbrev pub number_in : AtomOver ℕ → ℕ
number_in (in_atom ps r) = r
number_in _ = 0

-- the regex in which the constant's word is where the literal is true
abbrev pub asked_by : List Regex → List (AtomOver ℕ) → Lit → Regex
asked_by rs atoms l =
    if l.positive then regex_at rs (number_in (get_or atoms l.atom (bool_atom 0)))
    else mknot (regex_at rs (number_in (get_or atoms l.atom (bool_atom 0))))

-- the one in which it is where all of them are
abbrev pub asked_by_all : List Regex → List (AtomOver ℕ) → List Lit → Regex
asked_by_all rs atoms ls = mkand (map (asked_by rs atoms) ls)

-- no word makes all of them true
abbrev pub AreClashing : List Regex → List (AtomOver ℕ) → List Lit → Type 0
AreClashing rs atoms ls = HasNoWord (language (asked_by_all rs atoms ls))

-- each literal stands in the first list at most as often as in the second
abbrev pub AreFewer : List Lit → List Lit → Type 0
AreFewer ls ms = (l : Lit) → count_by (λ m. is_same_literal m l) ls ≤ count_by (λ m. is_same_literal m l) ms

-- none stands twice
abbrev pub AreSingle : List Lit → Type 0
AreSingle ls = (l : Lit) → count_by (λ m. is_same_literal m l) ls ≤ 1
