-- Numbers, and their tests.
use Rattle.std.proofs.Common.{◌≡◌, ℕ, suc, ◌+◌, ◌*◌, ◌<◌, ◌≤◌, true, ◌&&◌, ◌==◌, nat_eq, List, [], ◌∷◌, refl, ap₂, arith}
use Rattle.std.proofs.lemmas.Bool.{eq-eqb}
use Rattle.std.proofs.lemmas.Bool.Decides.{nat_tests}
use Rattle.std.specs.Cmp.Lexicographic.{pointwise}
use Rattle.std.specs.Ordering.{nat_cmp}
use Rattle.std.specs.declared.cmp.Ordering.TheVariants.{Less, Equal}

pub equal_itself : (n : ℕ) → (n == n) ≡ true
equal_itself n = eq-eqb n n refl

pub equal_turned : (a b : ℕ) → (a == b) ≡ (b == a)
equal_turned a b = grind (arith, nat_tests)

pub same_number : (m n : ℕ) → (m == n) ≡ true → n ≡ m
same_number m n h = grind (arith, nat_tests, h)

pub cmp_equal : (n m : ℕ) → nat_cmp n m ≡ Equal → n ≡ m
cmp_equal n m h = grind (arith, nat_tests)

pub cmp_less : (n m : ℕ) → nat_cmp n m ≡ Less → n < m
cmp_less n m h = grind (arith, nat_tests)

pub product_falls : (a b k x y : ℕ) → a < b → x < k → a * k + x < b * k + y
product_falls a b k x y l m = let h : suc a * k ≤ b * k = grind (arith) in grind (arith, h)

pub one_place : (k : ℕ) → k < 1 → k ≡ 0
one_place k h = omega (arith, h)

pub numbers_themselves : (is : List ℕ) → pointwise nat_eq is is ≡ true
numbers_themselves [] = refl
numbers_themselves (i ∷ is) = ap₂ ◌&&◌ (eq-eqb i i refl) (numbers_themselves is)
