-- The sums of two sets of lengths, taken bit by bit of the first.
use Rattle.std.proofs.Common.{◌≡◌, ℕ, zero, suc, ◌*◌, ◌/◌, ◌%◌, ◌<◌, ◌≤◌, Bool, true, false, ◌&&◌, ◌||◌, ◌==◌, nat_le, bit_or, bit_and, List, [], ◌∷◌, length, refl, sym, ap, ap₂, ◌∙◌, arith}
use Rattle.std.proofs.Math.Bool.{and-false, or-false}
use Rattle.std.proofs.lemmas.Bool.Decides.{nat_tests}
use Rattle.sb_lang.specs.Languages.{cut}
use Rattle.sb_lengths.specs.LengthSets.{has, of_lengths}
use Rattle.sb_lengths.proofs.Bits.{has_zero, has_or, has_lowest, has_above, has_moved, not_one}

-- the number is a sum of one of each
unfoldable pub sum_of : (ℕ → Bool) → (ℕ → Bool) → ℕ → Bool
sum_of f g zero = f zero && g zero
sum_of f g (suc n) = (f zero && g (suc n)) || sum_of (λ i. f (suc i)) g n

pub cut_by_lengths : (f g : ℕ → Bool) (w : List ℕ)
    → cut (λ u. f (length u)) (λ u. g (length u)) w ≡ sum_of f g (length w)
unfolding cut sum_of
cut_by_lengths f g [] = refl
cut_by_lengths f g (c ∷ w) =
    ap (λ b. (f zero && g (suc (length w))) || b) (cut_by_lengths (λ i. f (suc i)) g w)

sum_same : (f f' g : ℕ → Bool) (n : ℕ) → ((i : ℕ) → f i ≡ f' i) → sum_of f g n ≡ sum_of f' g n
unfolding sum_of
sum_same f f' g zero e = ap (λ b. b && g zero) (e zero)
sum_same f f' g (suc n) e =
    ap₂ (λ b d. (b && g (suc n)) || d) (e zero)
    (sum_same (λ i. f (suc i)) (λ i. f' (suc i)) g n (λ i. e (suc i)))

sum_none : (f g : ℕ → Bool) (n : ℕ) → ((i : ℕ) → f i ≡ false) → sum_of f g n ≡ false
unfolding sum_of
sum_none f g zero e = ap (λ b. b && g zero) (e zero)
sum_none f g (suc n) e =
    ap₂ (λ b d. (b && g (suc n)) || d) (e zero) (sum_none (λ i. f (suc i)) g n (λ i. e (suc i)))

-- where the second is moved up by one, so is the sum
sum_later : (f g h : ℕ → Bool) (n : ℕ) → h zero ≡ false → ((i : ℕ) → i ≤ n → h (suc i) ≡ g i)
    → sum_of f g n ≡ sum_of f h (suc n)
unfolding sum_of
sum_later f g h zero z e =
    sym (or-false (f zero && g zero))
    ∙ ap₂ (λ b d. (f zero && b) || d) (sym (e zero (omega arith)))
    (sym (and-false (f (suc zero))) ∙ ap (λ b. f (suc zero) && b) (sym z))
sum_later f g h (suc n) z e =
    ap₂ (λ b d. (f zero && b) || d) (sym (e (suc n) (omega arith)))
    (sum_later (λ i. f (suc i)) g h n z (λ i l. e i (omega (arith, l))))

none_moved : (a : ℕ) → has (a * 2 % 18446744073709551616) zero ≡ false
none_moved a = has_moved a 1 zero (omega arith)

all_moved : (a n : ℕ) → suc n < 64 → has (a * 2 % 18446744073709551616) (suc n) ≡ has a n
all_moved a n h =
    has_moved a 1 (suc n) h
    ∙ ap₂ (λ b m. b && has a m) one_up (omega arith)
  where
    one_up : nat_le 1 (suc n) ≡ true
    one_up = grind (arith, nat_tests)

sum_step : (rest moved n : ℕ) → n < 64
    → sum_of (has rest) (has moved) n
    ≡ ((has rest zero && has moved n)
    || sum_of (has (rest / 2)) (has (moved * 2 % 18446744073709551616)) n)
unfolding sum_of
sum_step rest moved zero h =
    sym (or-false _)
    ∙ ap (λ b. (has rest zero && has moved zero) || b)
    (sym (and-false _) ∙ ap (λ b. has (rest / 2) zero && b) (sym (none_moved moved)))
sum_step rest moved (suc n) h =
    ap (λ b. (has rest zero && has moved (suc n)) || b)
    (sum_same (λ i. has rest (suc i)) (has (rest / 2)) (has moved) n (λ i. has_above rest i)
    ∙ sum_later (has (rest / 2)) (has moved) (has (moved * 2 % 18446744073709551616)) n (none_moved moved)
    (λ i l. all_moved moved i (omega (arith, l, h))))

-- what is there, and what is still to come
abbrev pub AreSums : ℕ → ℕ → ℕ → ℕ → ℕ → Type 0
AreSums first second sums rest moved =
    (n : ℕ) → n < 64 → (has sums n || sum_of (has rest) (has moved) n) ≡ sum_of (has first) (has second) n

pub sums_begun : (first second : ℕ) → AreSums first second 0 first second
sums_begun first second n h = ap (λ b. b || sum_of (has first) (has second) n) (has_zero n)

or_moved : (s m d : Bool) → ((s || m) || d) ≡ (s || (m || d))
or_moved true m d = refl
or_moved false m d = refl

pub sums_added : (first second sums rest moved : ℕ) → bit_and rest 1 ≡ 1 → AreSums first second sums rest moved
    → AreSums first second (bit_or sums moved) (rest / 2) (moved * 2 % 18446744073709551616)
sums_added first second sums rest moved odd so_far n h =
    let one : has rest zero ≡ true = has_lowest rest ∙ ap (λ x. x == 1) odd in
    ap (λ b. b || sum_of (has (rest / 2)) (has (moved * 2 % 18446744073709551616)) n) (has_or sums moved n)
    ∙ or_moved (has sums n) (has moved n) _
    ∙ ap (λ b. has sums n || ((b && has moved n) || sum_of (has (rest / 2)) (has (moved * 2 % 18446744073709551616)) n))
    (sym one)
    ∙ ap (λ b. has sums n || b) (sym (sum_step rest moved n h))
    ∙ so_far n h

pub sums_passed : (first second sums rest moved : ℕ) → (bit_and rest 1 ≡ 1 → ⊥)
    → AreSums first second sums rest moved
    → AreSums first second sums (rest / 2) (moved * 2 % 18446744073709551616)
sums_passed first second sums rest moved even so_far n h =
    let none : has rest zero ≡ false = has_lowest rest ∙ not_one _ even in
    ap (λ b. has sums n || ((b && has moved n) || sum_of (has (rest / 2)) (has (moved * 2 % 18446744073709551616)) n))
    (sym none)
    ∙ ap (λ b. has sums n || b) (sym (sum_step rest moved n h))
    ∙ so_far n h

pub sums_done : (first second sums rest moved : ℕ) → rest ≡ 0 → AreSums first second sums rest moved → (w : List ℕ)
    → length w < 64 → of_lengths sums w ≡ cut (of_lengths first) (of_lengths second) w
sums_done first second sums rest moved none so_far w h =
    let nothing : sum_of (has rest) (has moved) (length w) ≡ false =
    sum_none (has rest) (has moved) (length w) (λ i. ap (λ x. has x i) none ∙ has_zero i) in
    sym (or-false (has sums (length w)))
    ∙ ap (λ b. has sums (length w) || b) (sym nothing)
    ∙ so_far (length w) h
    ∙ sym (cut_by_lengths (has first) (has second) w)
