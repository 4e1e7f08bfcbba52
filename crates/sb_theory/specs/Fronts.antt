-- How much of each constant's row its word is known to make true.
use Rattle.std.specs.Prelude.{◌≡◌, ℕ, ◌+◌, ◌≤◌, Bool, true, false, nat_eq, if◌then◌else◌, List, length, take, get_or, Option}
use Rattle.sb_theory.specs.Words.{AtomOver, Lit, Regex, Serial, list_all, list_any}
use Rattle.sb_theory.specs.Memberships.{AreMembers, row_at, word_at, is_true_of}

-- a number for each constant, 0 past the last
abbrev pub number_at : List ℕ → ℕ → ℕ
number_at numbers x = get_or numbers x 0

-- the number of this constant is put
abbrev pub IsSet : List ℕ → List ℕ → ℕ → ℕ → Type 0
IsSet old new x n = (y : ℕ) → number_at new y ≡ (if nat_eq x y then n else number_at old y)

-- no number falls
abbrev pub Rises : List ℕ → List ℕ → Type 0
Rises old new = (y : ℕ) → number_at old y ≤ number_at new y

-- the constant stands in the list
abbrev pub is_in : List Serial → ℕ → Bool
is_in changed x = list_any (λ s. nat_eq s.0 x) changed

-- the row has no literal behind the first ones of which this is known
abbrev pub IsWhole : List (List Lit) → List ℕ → ℕ → Type 0
IsWhole rows fitting x = length (row_at rows x) ≤ number_at fitting x

-- so many first literals of a row are true of a word
abbrev pub is_front_true : List Regex → List (AtomOver ℕ) → List ℕ → ℕ → List Lit → Bool
is_front_true rs atoms w n row = list_all (is_true_of rs atoms w) (take n row)

-- So many first literals of each constant's row are true of its word. Those of a constant that is not in the list are
-- all of them.
pub record AreFitting (rs : List Regex) (atoms : List (AtomOver ℕ)) (words : List (Option (List ℕ)))
    (rows : List (List Lit)) (fitting : List ℕ) (changed : List Serial) : Type 0
  where
    pub front : (x : ℕ) → is_front_true rs atoms (word_at words x) (number_at fitting x) (row_at rows x) ≡ true
    pub whole : (x : ℕ) → is_in changed x ≡ false → IsWhole rows fitting x

-- The rows are those of these literals.
pub record AreRows (rs : List Regex) (atoms : List (AtomOver ℕ)) (words : List (Option (List ℕ)))
    (rows : List (List Lit)) (fitting : List ℕ) (changed : List Serial) (ls : List Lit) : Type 0
  where
    pub members : AreMembers atoms rows ls
    pub fit : AreFitting rs atoms words rows fitting changed

-- The literal behind the first ones of a constant's row was matched with its word, which makes these true.
pub record IsNoted (old new : List ℕ) (before after : List Serial) (x long : ℕ) (matches : Bool) : Type 0 where
  pub set : IsSet old new x (if matches then long + 1 else long)
  pub stay : (y : ℕ) → is_in after y ≡ false → is_in before y ≡ false
  pub here : matches ≡ false → is_in after x ≡ true
