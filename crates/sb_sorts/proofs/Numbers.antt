-- Numbers by their digits.
use Rattle.std.proofs.Common.{◌≡◌, ℕ, ◌+◌, ◌-◌, ◌*◌, ◌<◌, ◌≤◌, List, [], ◌∷◌, drop, length, get_or, ap, ◌∙◌, arith}
use Rattle.std.proofs.lemmas.List.{drop_more}
use Rattle.sb_script.specs.Texts.{number_of, number_from}

-- a number does not fall by more digits
number_grows : (n : ℕ) (ds : List ℕ) → n ≤ number_from n ds
number_grows n [] = omega arith
number_grows n (d ∷ ds) = omega (arith, number_grows (10 * n + (d - 48)) ds)

pub digit_too_large : (ds : List ℕ) (i d n limit : ℕ) → i < length ds → number_of ds ≡ number_from n (drop i ds)
    → limit < 10 * n + (get_or ds i d - 48) → limit < number_of ds
digit_too_large ds i d n limit within before more =
    let is : number_of ds ≡ number_from (10 * n + (get_or ds i d - 48)) (drop (i + 1) ds) =
    before ∙ ap (number_from n) (drop_more ds i d within) in
    omega (arith, more, is, number_grows (10 * n + (get_or ds i d - 48)) (drop (i + 1) ds))
