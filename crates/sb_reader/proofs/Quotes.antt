-- The quote that closes a text: what is passed over.
use Rattle.std.proofs.Common.{◌≡◌, ℕ, ◌+◌, ◌<◌, Bool, false, ◌==◌, if◌then◌else◌, List, ◌∷◌, length, drop, get_or, ap, ◌∙◌, arith}
use Rattle.std.proofs.lemmas.Bool.Decides.{nat_tests}
use Rattle.std.proofs.lemmas.List.{drop_more}
use Rattle.sb_reader.specs.Lexing.{closing_from, closing_behind}

no_quote : (b : ℕ) → (b ≡ 34 → ⊥) → (b == 34) ≡ false
no_quote b other = grind (arith, nat_tests, other)

-- another byte
pub passed_other : (bs : List ℕ) (i : ℕ) → i < length bs → (get_or bs i 0 ≡ 34 → ⊥)
    → closing_from i (drop i bs) ≡ closing_from (i + 1) (drop (i + 1) bs)
passed_other bs i within other =
    ap (closing_from i) (drop_more bs i 0 within)
    ∙ ap (λ (b : Bool). if b then closing_behind i (drop (i + 1) bs) else closing_from (i + 1) (drop (i + 1) bs))
    (no_quote (get_or bs i 0) other)

-- a pair of quotes
pub passed_pair : (bs : List ℕ) (i : ℕ) → i + 1 < length bs → get_or bs i 0 ≡ 34 → get_or bs (i + 1) 0 ≡ 34
    → closing_from i (drop i bs) ≡ closing_from (i + 2) (drop (i + 2) bs)
passed_pair bs i within one other =
    let two : (i + 1) + 1 ≡ i + 2 = omega arith in
    ap (closing_from i) (drop_more bs i 0 (omega (arith, within)))
    ∙ ap (λ b. closing_from i (b ∷ drop (i + 1) bs)) one
    ∙ ap (closing_behind i) (drop_more bs (i + 1) 0 within)
    ∙ ap (λ n. closing_behind i (get_or bs (i + 1) 0 ∷ drop n bs)) two
    ∙ ap (λ b. closing_behind i (b ∷ drop (i + 2) bs)) other
