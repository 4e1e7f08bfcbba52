-- The literal of a term over a table stays the same over a larger table, and the terms of the fragment are those that
-- have one over some table.
use Rattle.std.specs.Prelude.{◌≡◌, true, List, ◌++◌, map, Some}
use Rattle.std.specs.List.{list_all}
use Rattle.sb_lit.specs.declared.clause.Lit.{Lit}
use Rattle.sb_meaning.specs.Terms.{Term}
use Rattle.sb_rulebook.specs.Atoms.{Atom}
use Rattle.sb_rulebook.specs.Parts.{together}
use Rattle.sb_rulebook.specs.Translation.{translation}
use Rattle.sb_script.specs.State.{State, live, live_terms}
use Rattle.sb_script.specs.Fragment.{fits, are_in_fragment}
use Rattle.sb_script.specs.WellSorted.{is_well_sorted}

abbrev pub TranslationStays : Type 0
TranslationStays = (atoms more : List Atom) (t : Term) (l : Lit) → translation atoms t ≡ Some l
    → translation (atoms ++ more) t ≡ Some l

-- some larger table has all atoms that the term needs
abbrev pub FittingIsTranslated : Type 0
FittingIsTranslated = (t : Term) → fits t ≡ true → is_well_sorted t ≡ true → (atoms : List Atom)
    → (more : List Atom) × (l : Lit) × (translation (atoms ++ more) t ≡ Some l)

-- and some larger table has those of all assertions
abbrev pub LiveAreTranslated : Type 0
LiveAreTranslated = (s : State) → are_in_fragment (live s) ≡ true → list_all is_well_sorted (live_terms s) ≡ true
    → (atoms : List Atom) → (more : List Atom) × (ls : List Lit)
    × (together (map (translation (atoms ++ more)) (live_terms s)) ≡ Some ls)

-- no other terms have one
abbrev pub TranslatedFits : Type 0
TranslatedFits = (atoms : List Atom) (t : Term) (l : Lit) → is_well_sorted t ≡ true → translation atoms t ≡ Some l
    → fits t ≡ true
