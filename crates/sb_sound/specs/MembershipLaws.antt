-- Clauses of memberships are true, and which clauses are of them.
use Rattle.std.specs.Prelude.{◌≡◌, ◌≢◌, ◌↔◌, ℕ, Bool, true, false, not, if◌then◌else◌, List, [], ◌∷◌, Some, slice_get}
use Rattle.sb_word.specs.Words.{IsWord}
use Rattle.sb_lit.specs.declared.clause.Lit.{Lit}
use Rattle.sb_lang.specs.Regex.{Regex}
use Rattle.sb_lang.specs.Language.{language}
use Rattle.sb_lang.specs.Constructors.{mkand, mknot, mkpath}
use Rattle.sb_lang.specs.Derivative.{nullable, nd_along}
use Rattle.sb_meaning.specs.Values.{Valuation}
use Rattle.sb_script.specs.Pieces.{Piece, constant_piece, word_piece}
use Rattle.sb_rulebook.specs.Atoms.{Atom, in_atom, clause_holds}
use Rattle.sb_rulebook.specs.Kept.{AllKept}
use Rattle.sb_rulebook.specs.Splits.{is_step, is_empty}
use Rattle.sb_sound.specs.Tables.{HasWords}
use Rattle.sb_sound.specs.ClauseForms.{of_sign, plus, minus, IsSetOf}

abbrev pub StepsHold : Type 0
StepsHold = (v : Valuation) (atoms : List Atom) (clause : List Lit) → is_step atoms clause ≡ true
    → clause_holds v atoms clause ≡ true

-- The forms of steps.
pub data IsStep (atoms : List Atom) (clause : List Lit) : Type 0 where
  -- (a), for a = no pieces are in a regex that is nullable,
  of_nullable : (a : ℕ) (r : Regex) → slice_get atoms a ≡ Some (in_atom [] r) → nullable r ≡ true
      → IsSetOf clause (plus a ∷ []) → IsStep atoms clause
  -- and (-a), where it is not nullable
  of_not_nullable : (a : ℕ) (r : Regex) → slice_get atoms a ≡ Some (in_atom [] r) → nullable r ≡ false
      → IsSetOf clause (minus a ∷ []) → IsStep atoms clause
  -- (-a c) or (a -c), for a = a word and more pieces are in r, c = these pieces are in the derivative along the word
  of_word : (a c : ℕ) (w : List ℕ) (ps : List Piece) (r : Regex) (positive : Bool)
      → slice_get atoms a ≡ Some (in_atom (word_piece w ∷ ps) r) → slice_get atoms c ≡ Some (in_atom ps (nd_along r w))
      → IsSetOf clause (of_sign positive a ∷ of_sign (not positive) c ∷ []) → IsStep atoms clause
  -- (-b -a c) or (-b a -c), for a = the constant x and more pieces are in r, b = x leads from r to q, and c = these
  -- pieces are in q
  of_constant : (a b c x : ℕ) (ps : List Piece) (r q : Regex) (positive : Bool)
      → slice_get atoms a ≡ Some (in_atom (constant_piece x ∷ ps) r)
      → slice_get atoms b ≡ Some (in_atom (constant_piece x ∷ []) (mkpath r q))
      → slice_get atoms c ≡ Some (in_atom ps q)
      → IsSetOf clause (minus b ∷ of_sign positive a ∷ of_sign (not positive) c ∷ []) → IsStep atoms clause

-- the rule accepts these and no others
abbrev pub StepsAreExact : Type 0
StepsAreExact = (atoms : List Atom) (clause : List Lit) → (is_step atoms clause ≡ true) ↔ IsStep atoms clause

-- the language has no word of characters
abbrev pub HasNone : Regex → Type 0
HasNone r = (w : List ℕ) → IsWord w → language r w ≡ false

-- no regex that is kept as dead has a word
abbrev pub AreEmpty : List Regex → List Bool → Type 0
AreEmpty known dead = (id : ℕ) (r : Regex) → slice_get dead id ≡ Some true → slice_get known id ≡ Some r → HasNone r

abbrev pub EmptyHolds : Type 0
EmptyHolds = (v : Valuation) (kept : AllKept) (clause : List Lit) → HasWords v
    → AreEmpty kept.regexes kept.dead → is_empty kept clause ≡ true → clause_holds v kept.atoms clause ≡ true

-- The literal's atom is a membership of the constant alone, and where the literal is false, the constant's word is in
-- the regex.
pub record IsDeniedIn (atoms : List Atom) (x : ℕ) (l : Lit) (r : Regex) : Type 0 where
  pub regex : Regex
  pub there : slice_get atoms l.atom ≡ Some (in_atom (constant_piece x ∷ []) regex)
  pub is : r ≡ (if l.positive then mknot regex else regex)

-- so for each literal, with a regex of its own
abbrev pub AreDeniedIn : List Atom → ℕ → List Lit → List Regex → Type 0
AreDeniedIn atoms x [] [] = Unit {0}
AreDeniedIn atoms x (l ∷ ls) (r ∷ rs) = IsDeniedIn atoms x l r × AreDeniedIn atoms x ls rs
AreDeniedIn atoms x _ _ = ⊥

-- There is a literal, all are of memberships of one constant, and where they are false, its word is in regexes whose
-- intersection is defined and dead.
pub record IsEmpty (kept : AllKept) (clause : List Lit) : Type 0 where
  pub some : clause ≢ []
  pub constant : ℕ
  pub regexes : List Regex
  pub denied : AreDeniedIn kept.atoms constant clause regexes
  pub place : ℕ
  pub defined : slice_get kept.regexes place ≡ Some (mkand regexes)
  pub dead : slice_get kept.dead place ≡ Some true

-- the rule accepts these and no others
abbrev pub EmptyIsExact : Type 0
EmptyIsExact = (kept : AllKept) (clause : List Lit) → (is_empty kept clause ≡ true) ↔ IsEmpty kept clause
