-- What the tests of relevant atoms and regexes say, and that what is relevant is the least that its clauses allow.
use Rattle.std.specs.Prelude.{◌≡◌, ◌≢◌, ℕ, ℤ, pos, ◌-ℤ◌, ◌≤ℤ◌, true, List, [], ◌∷◌, map, slice_get, Some, AllPairs, Contains, flat_map}
use Rattle.sb_lit.specs.declared.clause.Lit.{Lit}
use Rattle.sb_word.specs.Words.{IsWord, is_character}
use Rattle.sb_lang.specs.Regex.{Regex}
use Rattle.sb_lang.specs.Constructors.{any_character, mkrep, mkand, mkpath}
use Rattle.sb_lang.specs.Derivative.{nd, nd_along}
use Rattle.sb_meaning.specs.Terms.{Term}
use Rattle.sb_script.specs.State.{Assumption}
use Rattle.sb_script.specs.Pieces.{Piece, constant_piece, word_piece}
use Rattle.sb_script.specs.Sums.{Variable, Summand, length_of}
use Rattle.sb_script.specs.Bounds.{lower_in, upper_in}
use Rattle.sb_script.specs.LiteralBounds.{bounds_of}
use Rattle.sb_rulebook.specs.Atoms.{Atom, bool_atom, in_atom, le_atom, sum_atom, and_atom, iff_atom}
use Rattle.sb_rulebook.specs.Translation.{translation}
use Rattle.sb_rulebook.specs.Verdicts.{Question}
use Rattle.sb_rulebook.specs.Relevant.{Signed, live_terms, speaks_of, is_near, are_distinct, regex_signed, IsAsked, IsRelevant, IsRelevantRegex}

-- the variable stands in the atom
abbrev pub StandsIn : Variable → Atom → Type 0
StandsIn x (le_atom y k) = x ≡ y
StandsIn x (sum_atom k ss) = (s : Summand) × Contains ss s × (x ≡ s.1)
StandsIn x _ = ⊥

abbrev pub SpeaksOfWhatStandsIn : Type 0
SpeaksOfWhatStandsIn = (x : Variable) (a : Atom) → speaks_of x a ≡ true → StandsIn x a

-- the variable has a lower and an upper literal bound, and the number lies between them, or one below
pub record LiesNear (q : Question) (x : Variable) (k : ℤ) : Type 0 where
  pub lower : ℤ
  pub upper : ℤ
  pub is_lower : lower_in (flat_map bounds_of (live_terms q)) x ≡ Some lower
  pub is_upper : upper_in (flat_map bounds_of (live_terms q)) x ≡ Some upper
  pub above : (lower -ℤ pos 1) ≤ℤ k
  pub below : k ≤ℤ upper

abbrev pub NearLiesBetween : Type 0
NearLiesBetween = (q : Question) (x : Variable) (k : ℤ) → is_near q x k ≡ true → LiesNear q x k

-- no regex stands twice among those of one intersection
abbrev pub DistinctStandOnce : Type 0
DistinctStandOnce = (ms : List Signed) → are_distinct ms ≡ true → AllPairs (λ m n. m.0 ≢ n.0) ms

-- A property of atoms holds of those of a check's translations, and with an atom of its parts.
pub record KeepsAsked (q : Question) (atoms : List Atom) (P : Atom → Type 0) : Type 0 where
  pub assertions : (t : Term) (l : Lit) (a : Atom) → Contains (live_terms q) t → translation atoms t ≡ Some l
      → slice_get atoms l.atom ≡ Some a → P a
  pub assumptions : (given : Assumption) → Contains q.assumptions given → P (bool_atom given.0)
  pub conjuncts : (ls : List Lit) (l : Lit) (a : Atom) → P (and_atom ls) → Contains ls l
      → slice_get atoms l.atom ≡ Some a → P a
  pub firsts : (l m : Lit) (a : Atom) → P (iff_atom l m) → slice_get atoms l.atom ≡ Some a → P a
  pub seconds : (l m : Lit) (a : Atom) → P (iff_atom l m) → slice_get atoms m.atom ≡ Some a → P a

-- A property of atoms holds of those of the checks and of their variables' bounds near the literal ones, and with an
-- atom of those that a length and a membership lead to.
pub record KeepsRelevant (checks : List Question) (atoms : List Atom) (P : Atom → Type 0) : Type 0 where
  pub asked : (q : Question) (a : Atom) → Contains checks q → IsAsked q atoms a → P a
  pub bounds : (q : Question) (a : Atom) (x : Variable) (k : ℤ) → Contains checks q → IsAsked q atoms a
      → speaks_of x a ≡ true → is_near q x k ≡ true → P (le_atom x k)
  pub lengths : (serial n : ℕ) → P (le_atom (length_of serial) (pos n))
      → P (in_atom (constant_piece serial ∷ []) (mkrep any_character 0 n))
  pub fronts : (serial : ℕ) (p : Piece) (ps : List Piece) (r : Regex) (w : List ℕ)
      → P (in_atom (constant_piece serial ∷ p ∷ ps) r) → IsWord w
      → P (in_atom (constant_piece serial ∷ []) (mkpath r (nd_along r w)))
  pub rests : (serial : ℕ) (p : Piece) (ps : List Piece) (r : Regex) (w : List ℕ)
      → P (in_atom (constant_piece serial ∷ p ∷ ps) r) → IsWord w → P (in_atom (p ∷ ps) (nd_along r w))
  pub cuts : (w : List ℕ) (ps : List Piece) (r : Regex) → P (in_atom (word_piece w ∷ ps) r)
      → P (in_atom ps (nd_along r w))

-- A property of regexes holds of those of relevant atoms and of the intersections of one constant's, and with a regex
-- of its derivatives.
pub record KeepsRegexes (checks : List Question) (atoms : List Atom) (P : Regex → Type 0) : Type 0 where
  pub memberships : (ps : List Piece) (r : Regex) → IsRelevant checks atoms (in_atom ps r) → P r
  pub constants : (serial : ℕ) (ms : List Signed) → are_distinct ms ≡ true
      → ((m : Signed) → Contains ms m → IsRelevant checks atoms (in_atom (constant_piece serial ∷ []) m.0))
      → P (mkand (map regex_signed ms))
  pub derivatives : (r : Regex) (c : ℕ) → P r → is_character c ≡ true → P (nd r c)

-- What is relevant has these properties itself.
abbrev pub AskedIsClosed : Type 0
AskedIsClosed = (q : Question) (atoms : List Atom) → KeepsAsked q atoms (IsAsked q atoms)

abbrev pub RelevantIsClosed : Type 0
RelevantIsClosed = (checks : List Question) (atoms : List Atom) → KeepsRelevant checks atoms (IsRelevant checks atoms)

abbrev pub RelevantRegexesAreClosed : Type 0
RelevantRegexesAreClosed = (checks : List Question) (atoms : List Atom)
    → KeepsRegexes checks atoms (IsRelevantRegex checks atoms)

-- And whatever has them holds of all that is relevant.
abbrev pub AskedIsLeast : (Question → List Atom → Atom → Type 0) → Type 0
AskedIsLeast P = (q : Question) (atoms : List Atom) → KeepsAsked q atoms (P q atoms) → (a : Atom)
    → IsAsked q atoms a → P q atoms a

abbrev pub RelevantIsLeast : (List Question → List Atom → Atom → Type 0) → Type 0
RelevantIsLeast P = (checks : List Question) (atoms : List Atom) → KeepsRelevant checks atoms (P checks atoms)
    → (a : Atom) → IsRelevant checks atoms a → P checks atoms a

abbrev pub RelevantRegexesAreLeast : (List Question → List Atom → Regex → Type 0) → Type 0
RelevantRegexesAreLeast P = (checks : List Question) (atoms : List Atom) → KeepsRegexes checks atoms (P checks atoms)
    → (r : Regex) → IsRelevantRegex checks atoms r → P checks atoms r
