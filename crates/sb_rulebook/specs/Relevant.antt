-- The atoms and regexes of which the counted lines of a check may speak: those of the script's checks, and what
-- splitting and deriving make of them. The script fixes them.
use Rattle.std.specs.Prelude.{◌≡◌, ℕ, ℤ, pos, ◌-ℤ◌, int_le, Bool, true, false, not, ◌&&◌, ⊤, List, [], ◌∷◌, map, slice_get, Option, Some, None, All, Contains, IfSome}
use Rattle.std.specs.List.{list_any, flat_map}
use Rattle.sb_lit.specs.declared.clause.Lit.{Lit}
use Rattle.sb_word.specs.Words.{IsWord, is_character}
use Rattle.sb_lang.specs.Regex.{Regex}
use Rattle.sb_lang.specs.Order.{regex_eq}
use Rattle.sb_lang.specs.Constructors.{mkand, mknot, mkpath}
use Rattle.sb_lang.specs.Derivative.{nd, nd_along}
use Rattle.sb_meaning.specs.Terms.{Term}
use Rattle.sb_script.specs.State.{Assumption}
use Rattle.sb_rulebook.specs.Atoms.{Atom, bool_atom, in_atom, le_atom, sum_atom, and_atom, iff_atom}
use Rattle.sb_rulebook.specs.Translation.{translation}
use Rattle.sb_rulebook.specs.Lines.{Line, expansion_line, rule_line, learned_line}
use Rattle.sb_rulebook.specs.Kept.{AllKept}
use Rattle.sb_rulebook.specs.Gates.{short_membership}
use Rattle.sb_rulebook.specs.ClauseRules.{is_counted}
use Rattle.sb_rulebook.specs.Verdicts.{Question}
use Rattle.sb_script.specs.Pieces.{Piece, constant_piece, word_piece}
use Rattle.sb_script.specs.Sums.{Variable, length_of, is_same_variable}
use Rattle.sb_script.specs.Bounds.{lower_in, upper_in}
use Rattle.sb_script.specs.LiteralBounds.{bounds_of}

-- the terms of the live assertions
abbrev pub term_in : Option Term × ℕ → List Term
term_in (Some t, level) = t ∷ []
term_in (None, level) = []

abbrev pub live_terms : Question → List Term
live_terms q = flat_map term_in q.asked.live

-- Over a table of atoms: the atoms in the translations of a check's live assertions and assumptions, with their parts.
pub data IsAsked (q : Question) (atoms : List Atom) : Atom → Type 0 where
  of_assertion : (t : Term) (l : Lit) (a : Atom) → Contains (live_terms q) t → translation atoms t ≡ Some l
      → slice_get atoms l.atom ≡ Some a → IsAsked q atoms a
  of_assumption : (assumption : Assumption) → Contains q.assumptions assumption
      → IsAsked q atoms (bool_atom assumption.0)
  of_conjunct : (ls : List Lit) (l : Lit) (a : Atom) → IsAsked q atoms (and_atom ls) → Contains ls l
      → slice_get atoms l.atom ≡ Some a → IsAsked q atoms a
  of_first : (l m : Lit) (a : Atom) → IsAsked q atoms (iff_atom l m) → slice_get atoms l.atom ≡ Some a
      → IsAsked q atoms a
  of_second : (l m : Lit) (a : Atom) → IsAsked q atoms (iff_atom l m) → slice_get atoms m.atom ≡ Some a
      → IsAsked q atoms a

-- the variable stands in the atom
abbrev pub speaks_of : Variable → Atom → Bool
speaks_of x (le_atom y k) = is_same_variable x y
speaks_of x (sum_atom k ss) = list_any (λ s. is_same_variable x s.1) ss
speaks_of x _ = false

-- the number lies between a variable's bounds, or one below
abbrev pub lies_between : Option ℤ → Option ℤ → ℤ → Bool
lies_between (Some lower) (Some upper) k = int_le (lower -ℤ pos 1) k && int_le k upper
lies_between _ _ k = false

-- by the literal bounds of the check
abbrev pub is_near : Question → Variable → ℤ → Bool
is_near q x k = let bounds = flat_map bounds_of (live_terms q) in lies_between (lower_in bounds x) (upper_in bounds x) k

-- Over a table of atoms: the atoms that are relevant at a check, where these are the checks in the fragment so far,
-- it among them. The derivatives along all words are the regexes to which derivatives lead.
pub data IsRelevant (checks : List Question) (atoms : List Atom) : Atom → Type 0 where
  -- the atoms of a check
  of_check : (q : Question) (a : Atom) → Contains checks q → IsAsked q atoms a → IsRelevant checks atoms a
  -- the bounds of a variable in an atom of a check
  of_bound : (q : Question) (a : Atom) (x : Variable) (k : ℤ) → Contains checks q → IsAsked q atoms a
      → speaks_of x a ≡ true → is_near q x k ≡ true → IsRelevant checks atoms (le_atom x k)
  -- the membership that says the same as a bound of a length
  of_length : (serial n : ℕ) → IsRelevant checks atoms (le_atom (length_of serial) (pos n))
      → IsRelevant checks atoms (short_membership serial n)
  -- where a constant and more pieces are in a regex: the constant leads to some regex, and the other pieces are in it
  of_front : (serial : ℕ) (p : Piece) (ps : List Piece) (r : Regex) (w : List ℕ)
      → IsRelevant checks atoms (in_atom (constant_piece serial ∷ p ∷ ps) r) → IsWord w
      → IsRelevant checks atoms (in_atom (constant_piece serial ∷ []) (mkpath r (nd_along r w)))
  of_rest : (serial : ℕ) (p : Piece) (ps : List Piece) (r : Regex) (w : List ℕ)
      → IsRelevant checks atoms (in_atom (constant_piece serial ∷ p ∷ ps) r) → IsWord w
      → IsRelevant checks atoms (in_atom (p ∷ ps) (nd_along r w))
  -- where a word and more pieces are in a regex
  of_cut : (w : List ℕ) (ps : List Piece) (r : Regex) → IsRelevant checks atoms (in_atom (word_piece w ∷ ps) r)
      → IsRelevant checks atoms (in_atom ps (nd_along r w))

-- a regex, or its complement
abbrev pub Signed : Type 0
Signed = Regex × Bool

abbrev pub regex_signed : Signed → Regex
regex_signed (r, true) = r
regex_signed (r, false) = mknot r

-- no regex stands twice, in one sign or both
abbrev pub are_distinct : List Signed → Bool
are_distinct [] = true
are_distinct (m ∷ ms) = not (list_any (λ n. regex_eq m.0 n.0) ms) && are_distinct ms

-- The regexes that are relevant.
pub data IsRelevantRegex (checks : List Question) (atoms : List Atom) : Regex → Type 0 where
  -- of an atom
  of_membership : (ps : List Piece) (r : Regex) → IsRelevant checks atoms (in_atom ps r)
      → IsRelevantRegex checks atoms r
  -- the intersection of those of one constant, or their complements
  of_constant : (serial : ℕ) (ms : List Signed) → are_distinct ms ≡ true
      → ((m : Signed) → Contains ms m → IsRelevant checks atoms (in_atom (constant_piece serial ∷ []) m.0))
      → IsRelevantRegex checks atoms (mkand (map regex_signed ms))
  -- the derivative
  of_derivative : (r : Regex) (c : ℕ) → IsRelevantRegex checks atoms r → is_character c ≡ true
      → IsRelevantRegex checks atoms (nd r c)

-- each literal is of a relevant atom
abbrev pub AreRelevant : List Question → List Atom → List Lit → Type 0
AreRelevant checks atoms ls = All (λ l. IfSome (slice_get atoms l.atom) (IsRelevant checks atoms)) ls

-- A counted line speaks of relevant regexes and atoms alone.
abbrev pub IsRelevantLine : List Question → AllKept → Line → Type 0
IsRelevantLine checks kept (expansion_line r ks) = IfSome (slice_get kept.regexes r) (IsRelevantRegex checks kept.atoms)
IsRelevantLine checks kept (rule_line rule ls) = is_counted rule ≡ true → AreRelevant checks kept.atoms ls
IsRelevantLine checks kept (learned_line ls ids) = AreRelevant checks kept.atoms ls
IsRelevantLine checks kept _ = ⊤
