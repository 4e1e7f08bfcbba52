-- Private: the two rules of the fragment that a term may break by its form, by what is asked at each of the terms that
-- it is made of.
use Rattle.std.specs.Prelude.{◌≡◌, ℕ, ◌<◌, Bool, true, false, ◌&&◌, ◌||◌, nat_lt, List, [], ◌∷◌, ◌++◌}
use Rattle.std.specs.List.{list_all}
use Rattle.sb_meaning.specs.Terms.{Sort, Symbol, boolean, integer, text, reglan, Term, apply, terms_in, terms_of}
use Rattle.sb_meaning.specs.Terms as symbol
use Rattle.sb_script.specs.Fragment.{sort_of_first}
use Rattle.sb_script.specs.Pieces.{is_ground}
use Rattle.sb_script.specs.Rules.{Rule, each_once, one_ground, constants_joined, has_each_once, stand_once}
use Rattle.sb_term.specs.Descending.{has}
use Rattle.sb_term.specs.Numbered.{terms_at}
use Rattle.sb_problem.specs.Waiting.{sizes}
use Rattle.sb_fragment.specs.declared.ruled.Law.{Law}
use Rattle.sb_fragment.specs.declared.ruled.Law.TheVariants as law
use Rattle.sb_fragment.specs.declared.ruled.Place.{Place}
use Rattle.sb_fragment.specs.declared.ruled.Place.TheVariants as place
use Rattle.sb_fragment.specs.Compared.{each_two}
use Rattle.sb_fragment.specs.Shapes.{parts_of}

abbrev pub rule_in : Law → Rule
rule_in law.EachOnce = each_once
rule_in law.OneGround = one_ground

-- what a term is asked for a rule by its symbol: where it compares, by the sort of the first
abbrev pub place_compared : Bool → Sort → Place
place_compared distinct boolean = place.Nowhere
place_compared distinct integer = place.Nowhere
place_compared distinct text = place.Words distinct
place_compared distinct reglan = place.Nowhere

-- an affix and the term of which it is to be one are asked as the sides of an equality are
abbrev pub place_by : Symbol → List Term → Place
place_by symbol.core_equal ts = place_compared false (sort_of_first ts)
place_by symbol.core_distinct ts = place_compared true (sort_of_first ts)
place_by symbol.str_in_re ts = place.Membership
place_by symbol.str_prefixof ts = place.Words false
place_by symbol.str_suffixof ts = place.Words false
place_by symbol.str_contains ts = place.Words false
place_by _ ts = place.Nowhere

abbrev pub place_in : Term → Place
place_in (apply s terms) = place_by s (terms_in terms)
place_in _ = place.Nowhere

-- the rule is kept by the arguments, at such a place
abbrev pub kept_at : Rule → Place → List Term → Bool
kept_at rule place.Nowhere ts = true
kept_at rule place.Membership ts = rule.of_membership ts
kept_at rule (place.Words distinct) ts = each_two distinct rule.of_pair ts

abbrev pub kept_here : Rule → Term → Bool
kept_here rule t = kept_at rule (place_in t) (parts_of t)

-- the arguments that are gone into
abbrev pub left_at : Place → List Term → List Term
left_at place.Nowhere ts = ts
left_at place.Membership ts = []
left_at (place.Words distinct) ts = []

abbrev pub ruled_parts : Term → List Term
ruled_parts t = left_at (place_in t) (parts_of t)

-- The sides of an equality.

-- what is asked of each side
abbrev pub side_keeps : Law → Term → Bool
side_keeps law.EachOnce t = has_each_once t
side_keeps law.OneGround t = is_ground t

-- a side keeps the rule with all behind it, by whether it is as asked, each of those behind it is, and there is none
abbrev pub row_keeps : Law → Bool → Bool → Bool → Bool
row_keeps law.EachOnce one behind none = none || (one && behind)
row_keeps law.OneGround one behind none = one || behind

-- Constants that are joined.

abbrev pub constants_left : List Term → List ℕ
constants_left [] = []
constants_left (t ∷ ts) = constants_joined t ++ constants_left ts

-- The constants of what is left, and those behind them, which were met and stand once each, are those of the whole.
pub record Meeting (whole : Term) (met : List ℕ) (left : List Term) : Type 0 where
  pub done : List ℕ
  pub are : constants_joined whole ≡ constants_left left ++ done
  pub once : stand_once done ≡ true
  pub were_met : (n : ℕ) → has met n ≡ has done n

-- meeting goes on, or a constant stands twice
abbrev pub MeetsMore : Bool → Term → List ℕ → List Term → Type 0
MeetsMore true whole met left = Meeting whole met left
MeetsMore false whole met left = has_each_once whole ≡ false

-- what is left stays below what the next one is below, and fewer terms are in it
pub record Lessens (ts : List Term) (next : ℕ) (before after : List ℕ) : Type 0 where
  pub below : (n : ℕ) → next < n → list_all (λ i. nat_lt i n) before ≡ true → list_all (λ i. nat_lt i n) after ≡ true
  pub lighter : sizes (terms_of (terms_at ts after)) < sizes (terms_of (terms_at ts (before ++ next ∷ [])))
