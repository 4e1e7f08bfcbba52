-- The clause by rule step of a literal of a membership of several pieces, or of none, and the other literals in it.
use Rattle.std.specs.Prelude.{◌≡◌, ◌≢◌, ℕ, List, [], ◌∷◌, Option, Some, None, IsSomeAnd, slice_get}
use Rattle.sb_lang.specs.Constructors.{mkpath}
use Rattle.sb_lang.specs.Derivative.{nullable, nd_along}
use Rattle.sb_sound.specs.MembershipLaws.{IsStep}
use Rattle.sb_split.specs.Added.{AreSpokenOf}
use Rattle.sb_split.specs.declared.stepping.Step.{Step}
use Rattle.sb_split.specs.Words.{Ascend, Atom, AtomOver, Lit, Names, Regex, atoms_in, constant_piece, in_atom, in_order, minus, negation, of_sign, over, plus, regex_at, word_piece}

-- of no pieces, whatever the literal's sign: the atom a is as true as that the regex is nullable
pub record IsEndStep (a : ℕ) (r : Regex) (step : Step) : Type 0 where
  pub lead : step.lead ≡ None
  pub rest : step.rest ≡ None
  pub clause : step.clause ≡ of_sign (nullable r) a ∷ []

-- of a word and more pieces: where the literal is true, the atom c of what is left is to be as true as its atom
pub record IsWordStep (atoms : List Atom) (literal : Lit) (left : Atom) (step : Step) : Type 0 where
  pub c : ℕ
  pub there : slice_get atoms c ≡ Some left
  pub lead : step.lead ≡ None
  pub rest : step.rest ≡ Some (of_sign literal.positive c)
  pub clause : step.clause ≡ in_order (negation literal ∷ of_sign literal.positive c ∷ [])

-- of a constant and more pieces: so where the atom b is true, that the constant leads to the regex in between
pub record IsConstantStep (atoms : List Atom) (literal : Lit) (front left : Atom) (step : Step) : Type 0 where
  pub b : ℕ
  pub c : ℕ
  pub leads : slice_get atoms b ≡ Some front
  pub there : slice_get atoms c ≡ Some left
  pub lead : step.lead ≡ Some (plus b)
  pub rest : step.rest ≡ Some (of_sign literal.positive c)
  pub clause : step.clause ≡ in_order (minus b ∷ negation literal ∷ of_sign literal.positive c ∷ [])

-- What is left behind a word is to be in the derivative along it, and behind a constant in q, where the constant leads
-- to q. Of other atoms there is no step.
abbrev pub IsStepOf : List Atom → Lit → Regex → Atom → Option Step → Type 0
IsStepOf atoms l q (in_atom [] r) answer = IsSomeAnd answer (IsEndStep l.atom r)
IsStepOf atoms l q (in_atom (word_piece w ∷ ps) r) answer =
    IsSomeAnd answer (IsWordStep atoms l (in_atom ps (nd_along r w)))
IsStepOf atoms l q (in_atom (constant_piece x ∷ p ∷ ps) r) answer =
    IsSomeAnd answer (IsConstantStep atoms l (in_atom (constant_piece x ∷ []) (mkpath r q)) (in_atom (p ∷ ps) q))
IsStepOf atoms l q _ answer = answer ≡ None

-- the same of the atom of the literal, and the regex of a number
abbrev pub IsStepAt : List Regex → List (AtomOver ℕ) → ℕ → Lit → Option Step → Type 0
IsStepAt rs atoms q l answer = (atom : AtomOver ℕ) → Names atoms l.atom atom
    → IsStepOf (atoms_in rs atoms) l (regex_at rs q) (over rs atom) answer

-- each atom behind the old ones is of the clause, and none is new where there is no step
abbrev pub AreOfStep : List (AtomOver ℕ) → List (AtomOver ℕ) → Option Step → Type 0
AreOfStep old new None = new ≡ old
AreOfStep old new (Some step) = AreSpokenOf old new (step.clause ∷ [])

-- the negation of the literal, if there is one
abbrev pub denied : Option Lit → List Lit
denied None = []
denied (Some l) = negation l ∷ []

-- rule step accepts the clause, its literals ascend, and it has some
pub record IsStepInOrder (atoms : List Atom) (clause : List Lit) : Type 0 where
  pub step : IsStep atoms clause
  pub ascend : Ascend clause
  pub some : clause ≢ []
