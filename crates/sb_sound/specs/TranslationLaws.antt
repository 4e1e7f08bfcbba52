-- The literal of a term is true exactly where the term is.
use Rattle.std.specs.Prelude.{◌≡◌, true, List, Some}
use Rattle.sb_lit.specs.declared.clause.Lit.{Lit}
use Rattle.sb_meaning.specs.Terms.{Sort, Term}
use Rattle.sb_meaning.specs.Values.{Valuation}
use Rattle.sb_meaning.specs.Truth.{holds}
use Rattle.sb_rulebook.specs.Atoms.{Atom, literal_holds, truths_of}
use Rattle.sb_rulebook.specs.Translation.{translation}
use Rattle.sb_sound.specs.Tables.{is_table}
use Rattle.sb_sound.specs.TermLaws.{HasSorts, fits_sorts}

abbrev pub TranslationHolds : Type 0
TranslationHolds = (v : Valuation) (sorts : List Sort) (atoms : List Atom) (t : Term) (l : Lit)
    → is_table atoms ≡ true → HasSorts v sorts → fits_sorts sorts t ≡ true → translation atoms t ≡ Some l
    → literal_holds (truths_of v atoms) l ≡ holds t v
