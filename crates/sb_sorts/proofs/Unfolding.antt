-- Terms with arguments in the places of parameters.
use Rattle.std.proofs.Common.{◌≡◌, ℕ, Bool, true, false, ◌||◌, List, [], ◌∷◌, map, refl, sym, ap, ap₂, true≢false}
use Rattle.sb_meaning.specs.Terms.{Term, Terms, constant, word, numeral, apply, parameter, no_terms, with_term, terms_of}
use Rattle.sb_script.specs.Heads.{with_arguments, each_with_arguments}
use Rattle.sb_term.specs.Numbered.{terms_at}
use Rattle.sb_term.specs.Parameters.{has_parameters, have_parameters}
use Rattle.sb_term.specs.Descending.{AllOf}
use Rattle.sb_sorts.specs.Unfolding.{next_in, IsNext}

neither : (a b : Bool) → (a || b) ≡ false → (a ≡ false) × (b ≡ false)
neither true b h = absurd (true≢false h)
neither false b h = (refl, h)

-- what has no parameters stays as it is
mutual
  pub closed_same : (given : List Term) (t : Term) → has_parameters t ≡ false → with_arguments given t ≡ t
  closed_same given (constant serial sort) h = refl
  closed_same given (word w) h = refl
  closed_same given (numeral n) h = refl
  closed_same given (apply s terms) h = ap (apply s) (closed_each given terms h)
  closed_same given (parameter place sort) h = absurd (true≢false h)

  closed_each : (given : List Term) (terms : Terms) → have_parameters terms ≡ false
      → each_with_arguments given terms ≡ terms
  closed_each given no_terms h = refl
  closed_each given (with_term t terms) h =
      let parts = neither (has_parameters t) (have_parameters terms) h in
      ap₂ with_term (closed_same given t parts.0) (closed_each given terms parts.1)

-- arguments that are made, by the numbers that they have now
pub each_made : (ts us given : List Term) (made : List (ℕ × ℕ)) (is : List ℕ) → AllOf (IsNext ts us given made) is
    → each_with_arguments given (terms_of (terms_at ts is)) ≡ terms_of (terms_at us (map (next_in made) is))
each_made ts us given made [] h = refl
each_made ts us given made (i ∷ is) h = ap₂ with_term (sym h.0.1) (each_made ts us given made is h.1)
