-- What the end of a search with an answer `sat` gives: a literal that is kept for each assertion that is asked about,
-- and all atoms that these speak of decided as the words of the theory have it.
use Rattle.std.specs.Prelude.{◌≡◌, ℕ, true, List, [], ◌∷◌, ◌++◌, slice_get, Option, Some, None}
use Rattle.sb_solve.specs.Words.{AreTerms, Assertion, Assigned, Assumption, Atom, AtomOver, Kept, Lit, Regex, Term, a_mark, asked_in, asserted, atoms_in, held, is_true_by, list_all, live, translation, wanted_on}
use Rattle.sb_script.specs.State.{State}
use Rattle.sb_search.specs.Found.{are_true}
use Rattle.sb_solve.specs.Assumed.{AreSaid}
use Rattle.sb_solve.specs.Wanted.{atoms_of, is_in}
use Rattle.sb_solve.specs.Decided.{IsKept, IsDecided}

-- the assertion's term, where there is one, in front of the others
abbrev pub term_onto : Option Assertion → List Term → List Term
term_onto None ts = ts
term_onto (Some a_mark) ts = ts
term_onto (Some (asserted t)) ts = t ∷ ts

-- the terms of the assertions at these places, in order
abbrev pub terms_at : List Assertion → List ℕ → List Term
terms_at assertions [] = []
terms_at assertions (place ∷ places) = term_onto (slice_get assertions place) (terms_at assertions places)

-- the literal is that of the term, and it is a kept clause
pub record IsLiteral (atoms : List Atom) (kept : Kept) (t : Term) (l : Lit) : Type 0 where
  pub is : translation atoms t ≡ Some l
  pub kept_there : IsKept kept (l ∷ [])

-- one by one
abbrev pub AreLiterals : List Atom → Kept → List Term → List Lit → Type 0
AreLiterals atoms kept [] [] = Unit {0}
AreLiterals atoms kept (t ∷ ts) (l ∷ ls) = IsLiteral atoms kept t l × AreLiterals atoms kept ts ls
AreLiterals atoms kept _ _ = ⊥

-- Among the atoms that are wanted are those of the literals of the live assertions at these places, and of those of the
-- assumptions; each is decided, with all that they speak of; the literals of the assumptions are on the trail, and the
-- wanted memberships there are true of the words; and the live assertions fit the sorts of the constants.
pub record IsAnswered (rs : List Regex) (atoms : List (AtomOver ℕ)) (wanted : List ℕ) (literals assumed : List Lit)
    (kept : Kept) (entries : List Assigned) (words : List (Option (List ℕ))) (places : List ℕ) (s : State)
    (given : List Assumption) : Type 0
  where
    pub decided : IsDecided rs atoms wanted kept entries
    pub agrees : list_all (is_true_by rs atoms words) (wanted_on wanted entries) ≡ true
    pub wanted_there : list_all (is_in wanted) (atoms_of (literals ++ assumed)) ≡ true
    pub stated : AreLiterals (atoms_in rs atoms) kept (terms_at (live s) places) literals
    pub said : AreSaid atoms given assumed
    pub on : are_true (held entries) assumed ≡ true
    pub terms : AreTerms (asked_in s)
