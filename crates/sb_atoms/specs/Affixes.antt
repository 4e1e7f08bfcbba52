-- Private: the membership that a term is which says of a String term that it is a prefix, a suffix or a factor of
-- another.
use Rattle.std.specs.Prelude.{◌≡◌, ℕ, ◌<◌, false, List, length, Option, Some, None, option_map}
use Rattle.sb_word.specs.Words.{IsWord}
use Rattle.sb_lang.specs.Regex.{Regex}
use Rattle.sb_lang.specs.Affixes.{beginning_with, ending_with, containing, prefixes, suffixes, factors}
use Rattle.sb_regex.specs.Numbered.{regex_at}
use Rattle.sb_meaning.specs.Terms.{Term}
use Rattle.sb_script.specs.Fragment.{fits}
use Rattle.sb_script.specs.Pieces.{ground_word, whole_word}
use Rattle.sb_rulebook.specs.Atoms.{Atom}
use Rattle.sb_rulebook.specs.Translation.{translation}
use Rattle.sb_term.specs.Numbered.{term_at}
use Rattle.sb_fragment.specs.declared.shape.AffixKind.{AffixKind}
use Rattle.sb_fragment.specs.declared.shape.AffixKind.TheVariants as kind
use Rattle.sb_fragment.specs.Shapes.{affix}

-- the word that is asked for, and none where there is none; it is one of characters
abbrev pub IsItsWord : Option (List ℕ) → Option (List ℕ) → Type 0
IsItsWord asked None = asked ≡ None
IsItsWord asked (Some w) = (asked ≡ Some w) × IsWord w

-- the regex of the words of which a word is such a part, and that of such parts of it
abbrev pub holders : AffixKind → List ℕ → Regex
holders kind.Prefix = beginning_with
holders kind.Suffix = ending_with
holders kind.Factor = containing

abbrev pub parts : AffixKind → List ℕ → Regex
parts kind.Prefix = prefixes
parts kind.Suffix = suffixes
parts kind.Factor = factors

-- the String term and the regex of the membership, by the word of the part
abbrev pub sides_by : (List ℕ → Regex) → (List ℕ → Regex) → Term → Term → Option (List ℕ) → Option (Term × Regex)
sides_by over under part whole None = option_map (λ w. (part, under w)) (whole_word whole)
sides_by over under part whole (Some w) = Some (whole, over w)

abbrev pub sides : AffixKind → Term → Term → Option (Term × Regex)
sides k part whole = sides_by (holders k) (parts k) part whole (ground_word part)

-- the numbers of both
abbrev pub AreSides : List Term → List Regex → AffixKind → Term → Term → Option (ℕ × ℕ) → Type 0
AreSides ts rs k part whole None = sides k part whole ≡ None
AreSides ts rs k part whole (Some s) =
    (s.0 < length ts) × (s.1 < length rs) × (sides k part whole ≡ Some (term_at ts s.0, regex_at rs s.1))

-- the term is the membership of the String term in the regex
pub record IsMemberIn (t : Term) (k : AffixKind) (u : Term) (r : Regex) : Type 0 where
  pub part : Term
  pub whole : Term
  pub is : t ≡ affix k part whole
  pub sides : sides k part whole ≡ Some (u, r)

-- and where it is none, it is outside the fragment and has no literal
abbrev pub IsMember : List Term → List Regex → AffixKind → Term → Option (ℕ × ℕ) → Type 0
IsMember ts rs k t None = (fits t ≡ false) × ((atoms : List Atom) → translation atoms t ≡ None)
IsMember ts rs k t (Some s) =
    (s.0 < length ts) × (s.1 < length rs) × IsMemberIn t k (term_at ts s.0) (regex_at rs s.1)
