-- The index that `position` finds, or the length.
use Rattle.std.proofs.Common.{◌≡◌, ℕ, suc, ◌+◌, ◌≤◌, Bool, true, false, not, ◌==◌, cond, ltb, List, [], ◌∷◌, length, take, drop, Option, Some, None, unwrap_or, ◌&&◌, one-add, sym, refl, ap, ◌∙◌, ⊎_elim, arith}
use Rattle.std.specs.List.{position_or_len, position}
use Rattle.std.proofs.lemmas.List.Sums.{prefix_len-le-length}
use Rattle.std.proofs.Math.ListN.{drop_of_length-le}
use Rattle.std.proofs.lemmas.Bool.{cases_lt, lt-ltb, le-ltb}
use Rattle.sb_reader.specs.Tokens.{before_point, behind_point, is_decimal, is_numeral, some_pass, is_digit}

pub position_or_len-le : (p : ℕ → Bool) (xs : List ℕ) → position_or_len p xs ≤ length xs
position_or_len-le p xs = prefix_len-le-length (λ x. not (p x)) xs

cond_unwraps : (i n : ℕ) → i ≤ n → unwrap_or (cond (ltb i n) (Some i) None) n ≡ i
cond_unwraps i n fits =
    ⊎_elim
    (λ below. ap (λ b. unwrap_or (cond b (Some i) None) n) (lt-ltb i n below))
    (λ past. ap (λ b. unwrap_or (cond b (Some i) None) n) (le-ltb i n past) ∙ omega arith)
    (cases_lt i n)

-- what `position` and `unwrap_or` of the length give
pub unwrapped : (p : ℕ → Bool) (xs : List ℕ) (r : Option ℕ) → r ≡ position p xs
    → unwrap_or r (length xs) ≡ position_or_len p xs
unwrapped p xs r is = ap (λ o. unwrap_or o (length xs)) is
    ∙ cond_unwraps (position_or_len p xs) (length xs) (position_or_len-le p xs)

take_one_more : (t : Bool) (x n : ℕ) (xs before : List ℕ) → before ≡ take n xs
    → cond t [] (x ∷ before) ≡ take (cond (not t) (1 + n) 0) (x ∷ xs)
take_one_more true x n xs before same = refl
take_one_more false x n xs before same = rw one-add (ap (λ ys. x ∷ ys) same)

before_point-take : (xs : List ℕ) → before_point xs ≡ take (position_or_len (λ b. b == 46) xs) xs
before_point-take [] = refl
before_point-take (x ∷ xs) = take_one_more (x == 46) x _ xs _ (before_point-take xs)

drop_one_more : (t : Bool) (x n : ℕ) (xs behind : List ℕ) → behind ≡ drop (n + 1) xs
    → cond t xs behind ≡ drop (cond (not t) (1 + n) 0 + 1) (x ∷ xs)
drop_one_more true x n xs behind same = refl
drop_one_more false x n xs behind same = let e : 1 + n + 1 ≡ suc (n + 1) = omega arith in rw e same

behind_point-drop : (xs : List ℕ) → behind_point xs ≡ drop (position_or_len (λ b. b == 46) xs + 1) xs
behind_point-drop [] = refl
behind_point-drop (x ∷ xs) = drop_one_more (x == 46) x _ xs _ (behind_point-drop xs)

and_false : (b : Bool) → false ≡ (b && false)
and_false true = refl
and_false false = refl

-- a point that is the end leaves no fraction
pub no_decimal : (xs : List ℕ) (i : ℕ) → i ≡ position_or_len (λ b. b == 46) xs → i ≡ length xs → false ≡ is_decimal xs
no_decimal xs i at end =
    let past : length xs ≤ position_or_len (λ b. b == 46) xs + 1 = omega arith in
    let none : behind_point xs ≡ [] = behind_point-drop xs ∙ drop_of_length-le xs past in
    and_false (is_numeral (before_point xs))
    ∙ ap (λ ys. is_numeral (before_point xs) && some_pass is_digit ys) (sym none)

-- the parts round the first point
pub decimal_at : (xs : List ℕ) (i : ℕ) (n f : Bool) → i ≡ position_or_len (λ b. b == 46) xs → n ≡ is_numeral (take i xs)
    → f ≡ some_pass is_digit (drop (i + 1) xs) → (n && f) ≡ is_decimal xs
decimal_at xs i n f at whole fraction =
    let before : take i xs ≡ before_point xs = ap (λ k. take k xs) at ∙ sym (before_point-take xs) in
    let behind : drop (i + 1) xs ≡ behind_point xs = ap (λ k. drop (k + 1) xs) at ∙ sym (behind_point-drop xs) in
    (λ j. (whole ∙ ap is_numeral before) j && (fraction ∙ ap (some_pass is_digit) behind) j)
