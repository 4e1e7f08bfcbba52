-- Private: Boolean structure within the limits on sizes, by what is known of the parts.
use Rattle.std.specs.Prelude.{◌≡◌, Bool, true, false, not, ◌&&◌, ◌||◌, if◌then◌else◌, List, [], ◌∷◌, is_some}
use Rattle.std.specs.List.{list_all}
use Rattle.sb_meaning.specs.Terms.{Term}
use Rattle.sb_script.specs.Brought.{is_regex, is_structure}
use Rattle.sb_script.specs.Fragment.{fits}
use Rattle.sb_script.specs.Pieces.{ground_word, single_pieces}
use Rattle.sb_script.specs.Sizes.{is_regular}
use Rattle.sb_fragment.specs.declared.fitting.Fit.{Fit}
use Rattle.sb_fragment.specs.declared.sides.Side.{Side}
use Rattle.sb_fragment.specs.declared.sides.Behind.{Behind}

abbrev pub fit_with : Bool → Bool → Fit
fit_with structure fits = record { is_structure = structure; fits = fits }

-- by whether it is of the form, and whether it is within the limits then
abbrev pub fit_by : Bool → Bool → Fit
fit_by structure within = fit_with structure (structure && within)

-- what the term is
pub record IsFit (t : Term) (fit : Fit) : Type 0 where
  pub structure : fit.is_structure ≡ is_structure t
  pub fitting : fit.fits ≡ (is_structure t && fits t)

-- and what these are together
pub record AreFit (ts : List Term) (fit : Fit) : Type 0 where
  pub structure : fit.is_structure ≡ list_all is_structure ts
  pub fitting : fit.fits ≡ (list_all is_structure ts && list_all fits ts)

-- of a regular expression that a word is asked to be in
abbrev pub regex_fit : Term → Fit
regex_fit R = fit_by (is_regex R) (is_regular R)

-- Sides of equalities and of affixes, and String terms of memberships.

-- the term is a word within the limit
abbrev pub is_short_text : Term → Bool
is_short_text t = is_some (ground_word t)

-- the term is made of words within the limit and of constants, each of which stands once
abbrev pub is_single : Term → Bool
is_single t = is_some (single_pieces t)

abbrev pub side_in : Term → Side
side_in t = record { is_short = is_short_text t; is_single = is_single t }

abbrev pub is_nothing : List Term → Bool
is_nothing [] = true
is_nothing (t ∷ ts) = false

abbrev pub behind_in : List Term → Behind
behind_in ts = record { sides = list_all is_single ts; shorts = list_all is_short_text ts; none = is_nothing ts }

-- a side fits with each of those behind it
abbrev pub row_fits : Side → Behind → Bool
row_fits side behind =
    if side.is_short then behind.sides else if side.is_single then behind.shorts else behind.none

-- those behind the next one: it, and where each two are compared those behind it
abbrev pub with_side : Bool → Side → Behind → Behind
with_side distinct side behind = record {
  sides = side.is_single && (not distinct || behind.sides);
  shorts = side.is_short && (not distinct || behind.shorts);
  none = false;
}
