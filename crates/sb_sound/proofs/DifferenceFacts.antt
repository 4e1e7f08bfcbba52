-- A sum less another one has the difference of their values.
use Rattle.std.proofs.Common.{◌≡◌, true, Some, List, ap, ◌∙◌}
use Rattle.std.specs.Prelude.{ℤ, pos, ◌+ℤ◌, ◌-ℤ◌, neg_ℤ}
use Rattle.sb_meaning.specs.Terms.{Sort, Term}
use Rattle.sb_meaning.specs.Values.{Valuation}
use Rattle.sb_sound.specs.TermLaws.{fits_sorts}
use Rattle.sb_sound.proofs.SumFacts.{number_of, sum_declared, scaled_declared, added_value, negated_value, add_negated}
use Rattle.sb_script.specs.Sums.{Sum, scaled, subtracted, sum_of}

pub subtracted_value : (v : Valuation) (sorts : List Sort) (a b : Term) (s t : Sum) → fits_sorts sorts a ≡ true
    → fits_sorts sorts b ≡ true → sum_of a ≡ Some s → sum_of b ≡ Some t
    → number_of v (subtracted s t) ≡ number_of v s -ℤ number_of v t
subtracted_value v sorts a b s t fits_a fits_b here there =
    added_value v sorts s (scaled (neg_ℤ (pos 1)) t) (sum_declared sorts a s fits_a here)
    (scaled_declared sorts (neg_ℤ (pos 1)) t (sum_declared sorts b t fits_b there))
    ∙ ap (λ (n : ℤ). number_of v s +ℤ n) (negated_value v t)
    ∙ add_negated (number_of v s) (number_of v t)
