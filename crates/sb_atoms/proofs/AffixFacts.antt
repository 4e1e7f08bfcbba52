-- Terms that say of a String term that it is a prefix, a suffix or a factor of another, as memberships: their literals,
-- what of them is within the fragment, and their truth.
use Rattle.std.proofs.Common.{◌≡◌, ℕ, ◌<◌, ◌≤◌, Bool, true, false, ◌&&◌, nat_le, if◌then◌else◌, List, [], ◌∷◌, length, Option, Some, None, option_map, option_and_then, refl, sym, ap, ap₂, subst, ◌∙◌, arith}
use Rattle.std.specs.Prelude.{is_some}
use Rattle.std.proofs.Math.Bool.{and-true}
use Rattle.std.proofs.lemmas.Bool.{and_parts, false≢true}
use Rattle.std.proofs.lemmas.Bool.Decides.{nat_tests}
use Rattle.std.proofs.lemmas.List.{append-nil}
use Rattle.std.proofs.lemmas.Option.{option_and_then_some, same_Some}
use Rattle.sb_lang.specs.Regex.{Regex}
use Rattle.sb_lang.specs.Affixes.{is_prefix, is_suffix, is_inside}
use Rattle.sb_lang.specs.AffixLaws.{AffixesHaveTheirWords}
use Rattle.sb_lang.specs.Language.{language}
use Rattle.sb_lit.specs.declared.clause.Lit.{Lit}
use Rattle.sb_regex.specs.Numbered.{regex_at, Names}
use Rattle.sb_regex.specs.Numbered as regex
use Rattle.sb_regex.proofs.CallerLemmas.{names_at, names_below, extends_same}
use Rattle.sb_meaning.specs.Terms.{Sort, Term, Terms, apply, no_terms, with_term}
use Rattle.sb_meaning.specs.Terms as symbol
use Rattle.sb_meaning.specs.Values.{Valuation}
use Rattle.sb_meaning.specs.Truth.{means_word, truth_in, all_true, applied, meaning_of, holds}
use Rattle.sb_script.specs.Fragment.{is_affix_pair, fits}
use Rattle.sb_script.specs.Pieces.{Piece, constant_piece, word_piece, word_of, pieces_of, are_single, single_pieces, ground_word, whole_word}
use Rattle.sb_rulebook.specs.Atoms.{Atom, AtomOver, in_atom, are_pieces}
use Rattle.sb_rulebook.specs.Translation.{translation, positive, membership}
use Rattle.sb_rulebook.specs.Translation as rules
use Rattle.sb_term.specs.Numbered.{term_at}
use Rattle.sb_fragment.specs.declared.shape.AffixKind.{AffixKind}
use Rattle.sb_fragment.specs.declared.shape.AffixKind.TheVariants as kind
use Rattle.sb_fragment.specs.Shapes.{IsApplied, affix, affix_of}
use Rattle.sb_atoms.specs.Numbered.{atoms_in, HaveRegexesBelow}
use Rattle.sb_atoms.specs.Translated.{has_declared}
use Rattle.sb_atoms.specs.Growing.{are_declared_pieces, is_below, GrownByOne, IsLiteralOf, Finds, Moves}
use Rattle.sb_atoms.specs.Given.{GivesValues}
use Rattle.sb_atoms.specs.Truths.{joined_word, MeansIn, IsWithin, IsTruthUnder}
use Rattle.sb_atoms.specs.Affixes.{IsItsWord, holders, parts, sides_by, sides, AreSides, IsMemberIn, IsMember}
use Rattle.sb_atoms.proofs.Found.{named_below}
use Rattle.sb_atoms.proofs.Growth.{grown_one}
use Rattle.sb_atoms.proofs.PieceFacts.{pieces_mean}
use Rattle.sb_atoms.proofs.TextFacts.{membership_none}
use Rattle.sb_atoms.proofs.Translating.{apart_in}

-- The word of a term, by the pieces in which each constant stands once at most.

word_once : (ps : List Piece) → are_single ps ≡ false → word_of ps ≡ None
word_once [] h = absurd (false≢true (sym h))
word_once (word_piece w ∷ []) h = absurd (false≢true (sym h))
word_once (word_piece w ∷ p ∷ ps) h = refl
word_once (constant_piece s ∷ ps) h = refl

abbrev if_single : List Piece → Bool → Option (List Piece)
if_single ps b = if b then Some ps else None

ground_single : (t : Term) → ground_word t ≡ option_and_then word_of (single_pieces t)
ground_single t = step (pieces_of t)
  where
    of_single : (ps : List Piece) (b : Bool) → are_single ps ≡ b
        → word_of ps ≡ option_and_then word_of (if_single ps b)
    of_single ps true is = refl
    of_single ps false is = word_once ps is

    step : (o : Option (List Piece)) → option_and_then word_of o
        ≡ option_and_then word_of (option_and_then (λ ps. if are_single ps then Some ps else None) o)
    step None = refl
    step (Some ps) = of_single ps (are_single ps) refl

pub no_pieces_word : (t : Term) → single_pieces t ≡ None → ground_word t ≡ None
no_pieces_word t none = ground_single t ∙ ap (option_and_then word_of) none

pub its_word : (t : Term) (ps : List Piece) (found : Option (List ℕ)) → Some ps ≡ single_pieces t
    → IsItsWord (word_of ps) found → IsItsWord (ground_word t) found
its_word t ps found e h =
    subst (λ o. IsItsWord o found) (sym (ground_single t ∙ ap (option_and_then word_of) (sym e))) h

pub no_whole : (t : Term) → ground_word t ≡ None → whole_word t ≡ None
no_whole t none = ap (option_and_then (λ w. if nat_le (length w) 1000 then Some w else None)) none

pub whole_is : (t : Term) (w : List ℕ) → ground_word t ≡ Some w → length w ≤ 1000 → whole_word t ≡ Some w
whole_is t w there few =
    ap (option_and_then (λ u. if nat_le (length u) 1000 then Some u else None)) there
    ∙ ap (λ (b : Bool). if b then Some w else None) (at_most (length w) few)
  where
    at_most : (n : ℕ) → n ≤ 1000 → nat_le n 1000 ≡ true
    at_most n few = grind (arith, nat_tests, few)

pub whole_past : (t : Term) (w : List ℕ) → ground_word t ≡ Some w → 1000 < length w → whole_word t ≡ None
whole_past t w there many =
    ap (option_and_then (λ u. if nat_le (length u) 1000 then Some u else None)) there
    ∙ ap (λ (b : Bool). if b then Some w else None) (above (length w) many)
  where
    above : (n : ℕ) → 1000 < n → nat_le n 1000 ≡ false
    above n many = grind (arith, nat_tests, many)

-- The sides.

abbrev SideHas : (Term → Type 0) → Option (Term × Regex) → Type 0
SideHas P None = Unit {0}
SideHas P (Some s) = P s.0

side_has : (P : Term → Type 0) (k : AffixKind) (a b u : Term) (r : Regex) → sides k a b ≡ Some (u, r) → P a → P b
    → P u
side_has P k a b u r e first second = subst (SideHas P) e (step (ground_word a))
  where
    other : (o : Option (List ℕ)) → SideHas P (option_map (λ w. (a, parts k w)) o)
    other None = tt
    other (Some w) = first

    step : (o : Option (List ℕ)) → SideHas P (sides_by (holders k) (parts k) a b o)
    step None = other (whole_word b)
    step (Some w) = second

pub sides_whole : (ts : List Term) (rs : List Regex) (k : AffixKind) (part whole id : ℕ) (w : List ℕ)
    → whole < length ts → ground_word (term_at ts part) ≡ Some w → Names rs id (holders k w)
    → AreSides ts rs k (term_at ts part) (term_at ts whole) (Some (whole, id))
sides_whole ts rs k part whole id w within there names = (
  within,
  names_below rs id (holders k w) names,
  ap (sides_by (holders k) (parts k) (term_at ts part) (term_at ts whole)) there
      ∙ ap (λ r. Some (term_at ts whole, r)) (sym (names_at rs id (holders k w) names)),
)

pub sides_part : (ts : List Term) (rs : List Regex) (k : AffixKind) (part whole id : ℕ) (w : List ℕ)
    → part < length ts → ground_word (term_at ts part) ≡ None → whole_word (term_at ts whole) ≡ Some w
    → Names rs id (parts k w) → AreSides ts rs k (term_at ts part) (term_at ts whole) (Some (part, id))
sides_part ts rs k part whole id w within none there names = (
  within,
  names_below rs id (parts k w) names,
  ap (sides_by (holders k) (parts k) (term_at ts part) (term_at ts whole)) none
      ∙ ap (option_map (λ u. (term_at ts part, parts k u))) there
      ∙ ap (λ r. Some (term_at ts part, r)) (sym (names_at rs id (parts k w) names)),
)

pub sides_none : (k : AffixKind) (a b : Term) → ground_word a ≡ None → whole_word b ≡ None → sides k a b ≡ None
sides_none k a b none other =
    ap (sides_by (holders k) (parts k) a b) none ∙ ap (option_map (λ u. (a, parts k u))) other

-- What of them is within the fragment.

abbrev side_fits : Option (Term × Regex) → Bool
side_fits None = false
side_fits (Some s) = is_some (single_pieces s.0)

abbrev pair_by : Term → Term → Option (List ℕ) → Bool
pair_by part whole o = elim o [
  | Some w ↦ is_some (single_pieces whole)
  | None ↦ is_some (whole_word whole) && is_some (single_pieces part)
]

sides_fit : (k : AffixKind) (a b : Term) → is_affix_pair a b ≡ side_fits (sides k a b)
sides_fit k a b = step (ground_word a)
  where
    other : (o : Option (List ℕ))
        → (is_some o && is_some (single_pieces a)) ≡ side_fits (option_map (λ w. (a, parts k w)) o)
    other None = refl
    other (Some w) = refl

    step : (o : Option (List ℕ)) → pair_by a b o ≡ side_fits (sides_by (holders k) (parts k) a b o)
    step None = other (whole_word b)
    step (Some w) = refl

affix_fits : (k : AffixKind) (a b : Term) → fits (affix k a b) ≡ is_affix_pair a b
affix_fits kind.Prefix a b = refl
affix_fits kind.Suffix a b = refl
affix_fits kind.Factor a b = refl

pub side_single : (t : Term) (k : AffixKind) (u : Term) (r : Regex) → IsMemberIn t k u r → fits t ≡ true
    → is_some (single_pieces u) ≡ true
side_single t k u r h fit =
    sym (ap side_fits h.sides)
    ∙ sym (sides_fit k h.part h.whole)
    ∙ sym (affix_fits k h.part h.whole)
    ∙ sym (ap fits h.is)
    ∙ fit

-- Their literals.

abbrev side_literal : List Atom → Option (Term × Regex) → Option Lit
side_literal atoms o = option_and_then (λ s. membership atoms s.0 (Some s.1)) o

abbrev affix_by : List Atom → AffixKind → Term → Term → Option (List ℕ) → Option Lit
affix_by atoms k part whole o = elim o [
  | Some w ↦ membership atoms whole (Some (holders k w))
  | None ↦ membership atoms part (option_map (parts k) (whole_word whole))
]

sides_translated : (atoms : List Atom) (k : AffixKind) (a b : Term)
    → rules.affix atoms (holders k) (parts k) a b ≡ side_literal atoms (sides k a b)
sides_translated atoms k a b = step (ground_word a)
  where
    other : (o : Option (List ℕ))
        → membership atoms a (option_map (parts k) o) ≡ side_literal atoms (option_map (λ w. (a, parts k w)) o)
    other None = refl
    other (Some w) = refl

    step : (o : Option (List ℕ))
        → affix_by atoms k a b o ≡ side_literal atoms (sides_by (holders k) (parts k) a b o)
    step None = other (whole_word b)
    step (Some w) = refl

affix_translated : (k : AffixKind) (a b : Term) (atoms : List Atom)
    → translation atoms (affix k a b) ≡ rules.affix atoms (holders k) (parts k) a b
affix_translated kind.Prefix a b atoms = refl
affix_translated kind.Suffix a b atoms = refl
affix_translated kind.Factor a b atoms = refl

by_sides : (k : AffixKind) (a b : Term) (atoms : List Atom)
    → translation atoms (affix k a b) ≡ side_literal atoms (sides k a b)
by_sides k a b atoms = affix_translated k a b atoms ∙ sides_translated atoms k a b

pub side_member : (t : Term) (k : AffixKind) (u : Term) (r : Regex) → IsMemberIn t k u r → (atoms : List Atom)
    → membership atoms u (Some r) ≡ translation atoms t
side_member t k u r h atoms =
    sym (ap (translation atoms) h.is
    ∙ by_sides k h.part h.whole atoms
    ∙ ap (side_literal atoms) h.sides)

no_pieces : (t : Term) → is_some (single_pieces t) ≡ false → single_pieces t ≡ None
no_pieces t h = step (single_pieces t) h
  where
    step : (o : Option (List Piece)) → is_some o ≡ false → o ≡ None
    step None h = refl
    step (Some ps) h = absurd (false≢true (sym h))

pair_none : (k : AffixKind) (a b : Term) → is_affix_pair a b ≡ false → (atoms : List Atom)
    → translation atoms (affix k a b) ≡ None
pair_none k a b out atoms = by_sides k a b atoms ∙ step (sides k a b) (sym (sides_fit k a b) ∙ out)
  where
    step : (o : Option (Term × Regex)) → side_fits o ≡ false → side_literal atoms o ≡ None
    step None h = refl
    step (Some s) h = membership_none atoms s.0 (no_pieces s.0 h) (Some s.1)

applied_none : (k : AffixKind) (terms : Terms) → fits (apply (affix_of k) terms) ≡ false → (atoms : List Atom)
    → translation atoms (apply (affix_of k) terms) ≡ None
applied_none kind.Prefix no_terms h atoms = refl
applied_none kind.Prefix (with_term a no_terms) h atoms = refl
applied_none kind.Prefix (with_term a (with_term b no_terms)) h atoms = pair_none kind.Prefix a b h atoms
applied_none kind.Prefix (with_term a (with_term b (with_term c terms))) h atoms = refl
applied_none kind.Suffix no_terms h atoms = refl
applied_none kind.Suffix (with_term a no_terms) h atoms = refl
applied_none kind.Suffix (with_term a (with_term b no_terms)) h atoms = pair_none kind.Suffix a b h atoms
applied_none kind.Suffix (with_term a (with_term b (with_term c terms))) h atoms = refl
applied_none kind.Factor no_terms h atoms = refl
applied_none kind.Factor (with_term a no_terms) h atoms = refl
applied_none kind.Factor (with_term a (with_term b no_terms)) h atoms = pair_none kind.Factor b a h atoms
applied_none kind.Factor (with_term a (with_term b (with_term c terms))) h atoms = refl

-- outside the fragment there is none
pub outside_none : (t : Term) (k : AffixKind) → IsApplied t (affix_of k) → fits t ≡ false
    → (fits t ≡ false) × ((atoms : List Atom) → translation atoms t ≡ None)
outside_none t k h out = (
  out,
  λ atoms. ap (translation atoms) h.is ∙ applied_none k h.terms (sym (ap fits h.is) ∙ out) atoms,
)

pub member_from : (ts : List Term) (rs : List Regex) (k : AffixKind) (t a b : Term) (found : Option (ℕ × ℕ))
    → t ≡ affix k a b → AreSides ts rs k a b found → IsMember ts rs k t found
member_from ts rs k t a b None is h = (
  ap fits is ∙ affix_fits k a b ∙ sides_fit k a b ∙ ap side_fits h,
  λ atoms. ap (translation atoms) is ∙ by_sides k a b atoms ∙ ap (side_literal atoms) h,
)
member_from ts rs k t a b (Some s) is h =
    (h.0, h.1, record { part = a; whole = b; is = is; sides = h.2 })

both_declared : (k : AffixKind) (sorts : List Sort) (a b : Term) → has_declared sorts (affix k a b) ≡ true
    → (has_declared sorts a ≡ true) × (has_declared sorts b ≡ true)
both_declared kind.Prefix sorts a b d =
    let p = and_parts (has_declared sorts a) (has_declared sorts b && true) d in
    (p.0, (and_parts (has_declared sorts b) true p.1).0)
both_declared kind.Suffix sorts a b d =
    let p = and_parts (has_declared sorts a) (has_declared sorts b && true) d in
    (p.0, (and_parts (has_declared sorts b) true p.1).0)
both_declared kind.Factor sorts a b d =
    let p = and_parts (has_declared sorts b) (has_declared sorts a && true) d in
    ((and_parts (has_declared sorts a) true p.1).0, p.0)

pub side_declared : (t : Term) (k : AffixKind) (u : Term) (r : Regex) → IsMemberIn t k u r → (sorts : List Sort)
    → has_declared sorts t ≡ true → has_declared sorts u ≡ true
side_declared t k u r h sorts d =
    let both = both_declared k sorts h.part h.whole (sym (ap (has_declared sorts) h.is) ∙ d) in
    side_has (λ s. has_declared sorts s ≡ true) k h.part h.whole u r h.sides both.0 both.1

pub text_finds : (adds : Bool) (rs : List Regex) (new : List (AtomOver ℕ)) (t : Term) (ps : List Piece) (id : ℕ)
    (found : Option Lit) → single_pieces t ≡ Some ps → id < length rs → regex.AreDistinct rs
    → HaveRegexesBelow (length rs) new → IsLiteralOf adds new (in_atom ps id) found
    → Finds is_below adds rs new (λ atoms. membership atoms t (Some (regex_at rs id))) found
text_finds adds rs new t ps id found single known once below h = record {
  is = h.is rs (apart_in rs new (in_atom ps id) once below known)
      ∙ sym (ap (option_and_then (λ qs. positive (atoms_in rs new) (in_atom qs (regex_at rs id)))) single);
  none = λ on e. absurd (h.sure on e);
  below = λ l e. named_below new l (in_atom ps id) (h.names l e).0;
}

pub text_moves : (adds : Bool) (rs : List Regex) (old new : List (AtomOver ℕ)) (ps : List Piece) (id : ℕ)
    → id < length rs → are_pieces ps ≡ true → GrownByOne adds old new (in_atom ps id)
    → Moves adds (λ sorts. are_declared_pieces sorts ps) rs rs old new
text_moves adds rs old new ps id known formed g = record {
  arena = extends_same rs;
  atoms = grown_one adds (length rs) (λ sorts. are_declared_pieces sorts ps) old new (in_atom ps id) g known formed
      (λ rs. refl) (λ sorts is before l. is);
}

-- Their truth.

word_joined : (ws : List (List ℕ)) (ps : List Piece) (w : List ℕ) → word_of ps ≡ Some w → joined_word ws ps ≡ w
word_joined ws [] w h = Prim.cc (h)
word_joined ws (word_piece u ∷ []) w h = append-nil u ∙ same_Some u w h
word_joined ws (word_piece u ∷ p ∷ ps) w h = absurd (Prim.cc (h))
word_joined ws (constant_piece s ∷ ps) w h = absurd (Prim.cc (h))

ground_means : (ws : List (List ℕ)) (bs : List Bool) (v : Valuation) (t : Term) (w : List ℕ) → GivesValues ws bs v t
    → ground_word t ≡ Some w → meaning_of v t ≡ means_word w
ground_means ws bs v t w gives h =
    option_and_then_some word_of (pieces_of t) w h
    (λ ps there one. pieces_mean ws bs v t ps gives there ∙ ap (λ u. means_word u) (word_joined ws ps w one))

whole_ground : (t : Term) (w : List ℕ) → whole_word t ≡ Some w → ground_word t ≡ Some w
whole_ground t w h =
    option_and_then_some (λ u. if nat_le (length u) 1000 then Some u else None) (ground_word t) w h
    (λ u there short. there ∙ ap Some (step (nat_le (length u) 1000) u short))
  where
    step : (b : Bool) (u : List ℕ) → (if b then Some u else None) ≡ Some w → u ≡ w
    step true u e = same_Some u w e
    step false u e = absurd (Prim.cc (e))

-- what a kind of affix says of two words, and the words of the regexes
abbrev says : AffixKind → List ℕ → List ℕ → Bool
says kind.Prefix = is_prefix
says kind.Suffix = is_suffix
says kind.Factor = is_inside

record AreOfKind (k : AffixKind) : Type 0 where
  over : (w u : List ℕ) → language (holders k w) u ≡ says k w u
  under : (w u : List ℕ) → language (parts k w) u ≡ says k u w

of_kind : AffixesHaveTheirWords → (k : AffixKind) → AreOfKind k
of_kind law kind.Prefix = record { over = law.beginnings; under = law.prefixes_of }
of_kind law kind.Suffix = record { over = law.endings; under = law.suffixes_of }
of_kind law kind.Factor = record { over = law.holders; under = law.factors_of }

abbrev beside : AffixKind → Term → List ℕ → Term × Regex
beside k a w = (a, parts k w)

abbrev over_whole : AffixKind → Term → List ℕ → Term × Regex
over_whole k b w = (b, holders k w)

record Says (v : Valuation) (k : AffixKind) (a b : Term) (truth : Bool) : Type 0 where
  first : List ℕ
  second : List ℕ
  first_means : meaning_of v a ≡ means_word first
  second_means : meaning_of v b ≡ means_word second
  is : truth ≡ says k first second

said : (ws : List (List ℕ)) (bs : List Bool) (v : Valuation) (k : AffixKind) → AreOfKind k → (a b u : Term)
    (r : Regex) (truth : Bool) → GivesValues ws bs v a → GivesValues ws bs v b → sides k a b ≡ Some (u, r)
    → MeansIn v u r truth → Says v k a b truth
said ws bs v k law a b u r truth gives_a gives_b e m = step (ground_word a) refl e
  where
    other : (o : Option (List ℕ)) → whole_word b ≡ o → option_map (beside k a) o ≡ Some (u, r)
        → Says v k a b truth
    other None at e = absurd (Prim.cc (e))
    other (Some w) at e =
        let pair = same_Some (beside k a w) (u, r) e in record {
          first = m.letters;
          second = w;
          first_means = ap (λ (s : Term × Regex). meaning_of v s.0) pair ∙ m.means;
          second_means = ground_means ws bs v b w gives_b (whole_ground b w at);
          is = m.is.1
              ∙ sym (ap (λ (s : Term × Regex). language s.1 m.letters) pair)
              ∙ law.under w m.letters;
        }

    step : (o : Option (List ℕ)) → ground_word a ≡ o → sides_by (holders k) (parts k) a b o ≡ Some (u, r)
        → Says v k a b truth
    step None at e = other (whole_word b) refl e
    step (Some w) at e =
        let pair = same_Some (over_whole k b w) (u, r) e in record {
          first = w;
          second = m.letters;
          first_means = ground_means ws bs v a w gives_a at;
          second_means = ap (λ (s : Term × Regex). meaning_of v s.0) pair ∙ m.means;
          is = m.is.1
              ∙ sym (ap (λ (s : Term × Regex). language s.1 m.letters) pair)
              ∙ law.over w m.letters;
        }

holds_as_said : (v : Valuation) (k : AffixKind) (a b : Term) (truth : Bool) → Says v k a b truth
    → truth ≡ holds (affix k a b) v
holds_as_said v kind.Prefix a b truth h =
    h.is
    ∙ sym (ap₂ (λ x y. all_true (truth_in (applied symbol.str_prefixof (x ∷ y ∷ [])))) h.first_means h.second_means
    ∙ and-true (is_prefix h.first h.second))
holds_as_said v kind.Suffix a b truth h =
    h.is
    ∙ sym (ap₂ (λ x y. all_true (truth_in (applied symbol.str_suffixof (x ∷ y ∷ [])))) h.first_means h.second_means
    ∙ and-true (is_suffix h.first h.second))
holds_as_said v kind.Factor a b truth h =
    h.is
    ∙ sym (ap₂ (λ x y. all_true (truth_in (applied symbol.str_contains (y ∷ x ∷ [])))) h.first_means h.second_means
    ∙ and-true (is_inside h.first h.second))

both_given : (k : AffixKind) (ws : List (List ℕ)) (bs : List Bool) (v : Valuation) (a b : Term)
    → GivesValues ws bs v (affix k a b) → GivesValues ws bs v a × GivesValues ws bs v b
both_given kind.Prefix ws bs v a b gives = (gives.0, gives.1.0)
both_given kind.Suffix ws bs v a b gives = (gives.0, gives.1.0)
both_given kind.Factor ws bs v a b gives = (gives.1.0, gives.0)

pub side_true : AffixesHaveTheirWords → (t : Term) (k : AffixKind) (u : Term) (r : Regex) (ws : List (List ℕ))
    (truth : Bool) → IsMemberIn t k u r → IsWithin ws u r truth → IsTruthUnder ws t truth
side_true law t k u r ws truth h within = λ v bs gives.
    let both = both_given k ws bs v h.part h.whole (subst (GivesValues ws bs v) h.is gives) in
    let m = within v bs (side_has (GivesValues ws bs v) k h.part h.whole u r h.sides both.0 both.1) in
    holds_as_said v k h.part h.whole truth
    (said ws bs v k (of_kind law k) h.part h.whole u r truth both.0 both.1 h.sides m)
    ∙ sym (ap (λ s. holds s v) h.is)
