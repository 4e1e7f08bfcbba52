-- Products of integers: over sums and differences, and of three.
use Rattle.std.proofs.Common.{◌≡◌, zero, suc, sym, ap, ◌∙◌, arith}
use Rattle.std.specs.Prelude.{ℤ, pos, negsuc, ◌+ℤ◌, ◌-ℤ◌, ◌*ℤ◌, neg_ℤ}
use Rattle.std.proofs.lemmas.Int.{ints}
use Rattle.std.proofs.Math.IntN.{suc_ℤ, pred_ℤ, zero-*ℤ, suc_ℤ-*ℤ, pred_ℤ-*ℤ, suc_ℤ-+ℤ, pred_ℤ-+ℤ, +ℤ_idl, *ℤ_comm}

-- what holds of 0, of the next and of the one before holds of all
pub int_steps : (P : ℤ → Type 0) → P (pos 0) → ((m : ℤ) → P m → P (suc_ℤ m)) → ((m : ℤ) → P m → P (pred_ℤ m))
    → (m : ℤ) → P m
int_steps P base up down (pos zero) = base
int_steps P base up down (pos (suc n)) = up (pos n) (int_steps P base up down (pos n))
int_steps P base up down (negsuc zero) = down (pos 0) base
int_steps P base up down (negsuc (suc n)) = down (negsuc n) (int_steps P base up down (negsuc n))

swap_last : (a b c : ℤ) → (a +ℤ b) +ℤ c ≡ (a +ℤ c) +ℤ b
swap_last a b c = omega (arith, ints)

swap_less : (a b c : ℤ) → (a +ℤ b) -ℤ c ≡ (a -ℤ c) +ℤ b
swap_less a b c = omega (arith, ints)

pub sum_times : (m k x : ℤ) → (m +ℤ k) *ℤ x ≡ (m *ℤ x) +ℤ (k *ℤ x)
sum_times m k x = int_steps (λ n. (n +ℤ k) *ℤ x ≡ (n *ℤ x) +ℤ (k *ℤ x))
    (ap (λ n. n *ℤ x) (+ℤ_idl k) ∙ sym (+ℤ_idl (k *ℤ x)) ∙ ap (λ n. n +ℤ (k *ℤ x)) (sym (zero-*ℤ x)))
    (λ n more. ap (λ n. n *ℤ x) (suc_ℤ-+ℤ n k)
    ∙ suc_ℤ-*ℤ (n +ℤ k) x
    ∙ ap (λ n. n +ℤ x) more
    ∙ swap_last (n *ℤ x) (k *ℤ x) x
    ∙ ap (λ n. n +ℤ (k *ℤ x)) (sym (suc_ℤ-*ℤ n x)))
    (λ n more. ap (λ n. n *ℤ x) (pred_ℤ-+ℤ n k)
    ∙ pred_ℤ-*ℤ (n +ℤ k) x
    ∙ ap (λ n. n -ℤ x) more
    ∙ swap_less (n *ℤ x) (k *ℤ x) x
    ∙ ap (λ n. n +ℤ (k *ℤ x)) (sym (pred_ℤ-*ℤ n x))) m

pub times_sum : (x m k : ℤ) → x *ℤ (m +ℤ k) ≡ (x *ℤ m) +ℤ (x *ℤ k)
times_sum x m k = *ℤ_comm x (m +ℤ k) ∙ sum_times m k x
    ∙ ap (λ n. n +ℤ (k *ℤ x)) (*ℤ_comm m x) ∙ ap (λ n. (x *ℤ m) +ℤ n) (*ℤ_comm k x)

less_from_sum : (a b c : ℤ) → a ≡ b +ℤ c → b ≡ a -ℤ c
less_from_sum a b c h = omega (arith, ints)

again : (m k : ℤ) → m ≡ (m -ℤ k) +ℤ k
again m k = omega (arith, ints)

pub less_times : (m k x : ℤ) → (m -ℤ k) *ℤ x ≡ (m *ℤ x) -ℤ (k *ℤ x)
less_times m k x = less_from_sum (m *ℤ x) ((m -ℤ k) *ℤ x) (k *ℤ x)
    (ap (λ n. n *ℤ x) (again m k) ∙ sum_times (m -ℤ k) k x)

pub times_times : (m k x : ℤ) → (m *ℤ k) *ℤ x ≡ m *ℤ (k *ℤ x)
times_times m k x = int_steps (λ n. (n *ℤ k) *ℤ x ≡ n *ℤ (k *ℤ x))
    (ap (λ n. n *ℤ x) (zero-*ℤ k) ∙ zero-*ℤ x ∙ sym (zero-*ℤ (k *ℤ x)))
    (λ n more. ap (λ n. n *ℤ x) (suc_ℤ-*ℤ n k)
    ∙ sum_times (n *ℤ k) k x
    ∙ ap (λ n. n +ℤ (k *ℤ x)) more
    ∙ sym (suc_ℤ-*ℤ n (k *ℤ x)))
    (λ n more. ap (λ n. n *ℤ x) (pred_ℤ-*ℤ n k)
    ∙ less_times (n *ℤ k) k x
    ∙ ap (λ n. n -ℤ (k *ℤ x)) more
    ∙ sym (pred_ℤ-*ℤ n (k *ℤ x))) m

-- less 1 times a number is its negation
pub less_one_times : (x : ℤ) → neg_ℤ (pos 1) *ℤ x ≡ pos 0 -ℤ x
less_one_times x = pred_ℤ-*ℤ (pos 0) x ∙ ap (λ n. n -ℤ x) (zero-*ℤ x)
