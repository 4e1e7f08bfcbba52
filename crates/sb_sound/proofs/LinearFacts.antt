-- What the bounds that a clause of a sum denies say of the values, of the products and of the sum.
use Rattle.std.proofs.Common.{◌≡◌, ℕ, zero, suc, Bool, true, false, not, ◌||◌, cond, if◌then◌else◌, List, [], ◌∷◌, ◌++◌, length, Option, Some, None, refl, sym, ap, ◌∙◌, subst, arith}
use Rattle.std.specs.Prelude.{ℤ, pos, negsuc, ◌+ℤ◌, ◌-ℤ◌, ◌*ℤ◌, int_le, int_lt, filter, option_map, option_and_then}
use Rattle.std.specs.Int.Signed.{◌≤ℤ◌, ≤ℤ_refl}
use Rattle.std.specs.List.{list_all, list_any}
use Rattle.std.proofs.lemmas.Int.{ints}
use Rattle.std.proofs.lemmas.Bool.{lt-ltb, and_parts, or_parts, or_left, or_right, not-false}
use Rattle.std.proofs.Math.IntN.{zero-*ℤ, suc_ℤ-*ℤ, pred_ℤ-*ℤ}
use Rattle.sb_lit.specs.declared.clause.Lit.{Lit}
use Rattle.sb_meaning.specs.Values.{Valuation}
use Rattle.sb_rulebook.specs.Atoms.{Atom, le_atom, sum_atom, word_at, value_of, value_of_sum, literal_holds, truths_of, clause_holds}
use Rattle.sb_rulebook.specs.Gates.{atom_of}
use Rattle.sb_rulebook.specs.BoundClauses.{is_sum_bound, is_bound, bound_denied, bounds_denied, passes, is_forced, is_forced_sum, is_linear}
use Rattle.sb_sound.proofs.SameParts.{same_value}
use Rattle.sb_sound.proofs.TableFacts.{literal_holds-atom}
use Rattle.sb_script.specs.Sums.{Variable, int_constant, length_of, Summand, is_same_variable}
use Rattle.sb_script.specs.Bounds.{Bound, at_least, at_most, greater_of, lesser_of, lower_in, upper_in, least_product, least_by, least_sum, greatest_sum}

-- Tests of numbers.

pub le_from_test : (a b : ℤ) → int_le a b ≡ true → a ≤ℤ b
le_from_test a b h = grind (arith, ints)

pub next_from_test : (a b : ℤ) → int_le a b ≡ false → (b +ℤ pos 1) ≤ℤ a
next_from_test a b h = grind (arith, ints)

pub not_le_from_above : (a b k : ℤ) → a ≤ℤ b → int_lt k a ≡ true → int_le b k ≡ false
not_le_from_above a b k h t = grind (arith, ints)

pub le_from_below : (a b k : ℤ) → a ≤ℤ b → int_le b k ≡ true → int_le a k ≡ true
le_from_below a b k h t = grind (arith, ints)

-- Products keep or turn an order.

sum_le : (a b c d : ℤ) → a ≤ℤ b → c ≤ℤ d → (a +ℤ c) ≤ℤ (b +ℤ d)
sum_le a b c d p q = omega (arith, ints)

difference_le : (a b c d : ℤ) → a ≤ℤ b → c ≤ℤ d → (a -ℤ d) ≤ℤ (b -ℤ c)
difference_le a b c d p q = omega (arith, ints)

zero_le : (a b : ℤ) → (pos 0 *ℤ a) ≤ℤ (pos 0 *ℤ b)
zero_le a b = rw (zero-*ℤ a, zero-*ℤ b) (≤ℤ_refl (pos 0))

pub product_up : (m : ℕ) (a b : ℤ) → a ≤ℤ b → (pos m *ℤ a) ≤ℤ (pos m *ℤ b)
product_up zero a b h = zero_le a b
product_up (suc m) a b h = rw (suc_ℤ-*ℤ (pos m) a, suc_ℤ-*ℤ (pos m) b)
    (sum_le (pos m *ℤ a) (pos m *ℤ b) a b (product_up m a b h) h)

pub product_down : (m : ℕ) (a b : ℤ) → a ≤ℤ b → (negsuc m *ℤ b) ≤ℤ (negsuc m *ℤ a)
product_down zero a b h = rw (pred_ℤ-*ℤ (pos 0) a, pred_ℤ-*ℤ (pos 0) b)
    (difference_le (pos 0 *ℤ b) (pos 0 *ℤ a) a b (zero_le b a) h)
product_down (suc m) a b h = rw (pred_ℤ-*ℤ (negsuc m) a, pred_ℤ-*ℤ (negsuc m) b)
    (difference_le (negsuc m *ℤ b) (negsuc m *ℤ a) a b (product_down m a b h) h)

-- Bounds of a number, where there is one.

abbrev pub IsBelow : Option ℤ → ℤ → Type 0
IsBelow o z = (n : ℤ) → o ≡ Some n → n ≤ℤ z

abbrev pub IsAbove : Option ℤ → ℤ → Type 0
IsAbove o z = (n : ℤ) → o ≡ Some n → z ≤ℤ n

none_below : (z : ℤ) → IsBelow None z
none_below z n h = absurd (Prim.cc (h))

none_above : (z : ℤ) → IsAbove None z
none_above z n h = absurd (Prim.cc (h))

some_same : (m n : ℤ) → Some m ≡ Some n → m ≡ n
some_same m n h = Prim.cc (h)

below_at : (m z : ℤ) → m ≤ℤ z → IsBelow (Some m) z
below_at m z h n e = subst (λ (k : ℤ). k ≤ℤ z) (some_same m n e) h

above_at : (m z : ℤ) → z ≤ℤ m → IsAbove (Some m) z
above_at m z h n e = subst (λ (k : ℤ). z ≤ℤ k) (some_same m n e) h

if_below : (b : Bool) (m k z : ℤ) → m ≤ℤ z → k ≤ℤ z → (if b then m else k) ≤ℤ z
if_below true m k z p q = p
if_below false m k z p q = q

if_above : (b : Bool) (m k z : ℤ) → z ≤ℤ m → z ≤ℤ k → z ≤ℤ (if b then m else k)
if_above true m k z p q = p
if_above false m k z p q = q

greater_below : (o p : Option ℤ) (z : ℤ) → IsBelow o z → IsBelow p z → IsBelow (greater_of o p) z
greater_below None p z f g = g
greater_below (Some m) None z f g = f
greater_below (Some m) (Some k) z f g =
    below_at (if int_le m k then k else m) z (if_below (int_le m k) k m z (g k refl) (f m refl))

lesser_above : (o p : Option ℤ) (z : ℤ) → IsAbove o z → IsAbove p z → IsAbove (lesser_of o p) z
lesser_above None p z f g = g
lesser_above (Some m) None z f g = f
lesser_above (Some m) (Some k) z f g =
    above_at (if int_le m k then m else k) z (if_above (int_le m k) m k z (f m refl) (g k refl))

-- Bounds that hold under a valuation.

abbrev pub BoundHolds : Valuation → Bound → Type 0
BoundHolds v (at_least x k) = k ≤ℤ value_of v x
BoundHolds v (at_most x k) = value_of v x ≤ℤ k

abbrev pub BoundsHold : Valuation → List Bound → Type 0
BoundsHold v [] = Unit {0}
BoundsHold v (b ∷ bs) = BoundHolds v b × BoundsHold v bs

said_below : (b : Bool) (k y x : ℤ) → (b ≡ true → y ≡ x) → k ≤ℤ y → IsBelow (if b then Some k else None) x
said_below true k y x same h = below_at k x (subst (λ (z : ℤ). k ≤ℤ z) (same refl) h)
said_below false k y x same h = none_below x

said_above : (b : Bool) (k y x : ℤ) → (b ≡ true → y ≡ x) → y ≤ℤ k → IsAbove (if b then Some k else None) x
said_above true k y x same h = above_at k x (subst (λ (z : ℤ). z ≤ℤ k) (same refl) h)
said_above false k y x same h = none_above x

pub lower_below : (v : Valuation) (bs : List Bound) → BoundsHold v bs → (x : Variable)
    → IsBelow (lower_in bs x) (value_of v x)
lower_below v [] h (int_constant s) = none_below (value_of v (int_constant s))
lower_below v [] h (length_of s) = below_at (pos 0) (pos (length (word_at v s))) (omega (arith, ints))
lower_below v (at_least y k ∷ bs) h x =
    greater_below (if is_same_variable x y then Some k else None) (lower_in bs x) (value_of v x)
    (said_below (is_same_variable x y) k (value_of v y) (value_of v x) (λ same. sym (same_value v x y same)) h.0)
    (lower_below v bs h.1 x)
lower_below v (at_most y k ∷ bs) h x = lower_below v bs h.1 x

pub upper_above : (v : Valuation) (bs : List Bound) → BoundsHold v bs → (x : Variable)
    → IsAbove (upper_in bs x) (value_of v x)
upper_above v [] h x = none_above (value_of v x)
upper_above v (at_least y k ∷ bs) h x = upper_above v bs h.1 x
upper_above v (at_most y k ∷ bs) h x =
    lesser_above (if is_same_variable x y then Some k else None) (upper_in bs x) (value_of v x)
    (said_above (is_same_variable x y) k (value_of v y) (value_of v x) (λ same. sym (same_value v x y same)) h.0)
    (upper_above v bs h.1 x)

-- Products and sums by bounds.

map_below : (f : ℤ → ℤ) (o : Option ℤ) (y : ℤ) → ((n : ℤ) → o ≡ Some n → f n ≤ℤ y) → IsBelow (option_map f o) y
map_below f None y h = none_below y
map_below f (Some m) y h = below_at (f m) y (h m refl)

map_above : (f : ℤ → ℤ) (o : Option ℤ) (y : ℤ) → ((n : ℤ) → o ≡ Some n → y ≤ℤ f n) → IsAbove (option_map f o) y
map_above f None y h = none_above y
map_above f (Some m) y h = above_at (f m) y (h m refl)

is_positive : (m : ℕ) → int_lt (pos 0) (pos (suc m)) ≡ true
is_positive m = lt-ltb 0 (suc m) (omega arith)

product_below : (lower upper : Option ℤ) (c z : ℤ) → IsBelow lower z → IsAbove upper z
    → IsBelow (option_map (λ n. c *ℤ n) (if int_lt (pos 0) c then lower else upper)) (c *ℤ z)
product_below lower upper (pos zero) z f g =
    map_below (λ n. pos 0 *ℤ n) upper (pos 0 *ℤ z) (λ n e. zero_le n z)
product_below lower upper (pos (suc m)) z f g =
    subst (λ (b : Bool). IsBelow (option_map (λ n. pos (suc m) *ℤ n) (if b then lower else upper)) (pos (suc m) *ℤ z))
    (sym (is_positive m))
    (map_below (λ n. pos (suc m) *ℤ n) lower (pos (suc m) *ℤ z) (λ n e. product_up (suc m) n z (f n e)))
product_below lower upper (negsuc m) z f g =
    map_below (λ n. negsuc m *ℤ n) upper (negsuc m *ℤ z) (λ n e. product_down m z n (g n e))

product_above : (lower upper : Option ℤ) (c z : ℤ) → IsAbove lower z → IsBelow upper z
    → IsAbove (option_map (λ n. c *ℤ n) (if int_lt (pos 0) c then lower else upper)) (c *ℤ z)
product_above lower upper (pos zero) z f g =
    map_above (λ n. pos 0 *ℤ n) upper (pos 0 *ℤ z) (λ n e. zero_le z n)
product_above lower upper (pos (suc m)) z f g =
    subst (λ (b : Bool). IsAbove (option_map (λ n. pos (suc m) *ℤ n) (if b then lower else upper)) (pos (suc m) *ℤ z))
    (sym (is_positive m))
    (map_above (λ n. pos (suc m) *ℤ n) lower (pos (suc m) *ℤ z) (λ n e. product_up (suc m) z n (f n e)))
product_above lower upper (negsuc m) z f g =
    map_above (λ n. negsuc m *ℤ n) upper (negsuc m *ℤ z) (λ n e. product_down m n z (g n e))

both_below : (o p : Option ℤ) (y z : ℤ) → IsBelow o y → IsBelow p z
    → IsBelow (option_and_then (λ m. option_map (λ n. m +ℤ n) p) o) (y +ℤ z)
both_below None p y z f g = none_below (y +ℤ z)
both_below (Some m) None y z f g = none_below (y +ℤ z)
both_below (Some m) (Some n) y z f g = below_at (m +ℤ n) (y +ℤ z) (sum_le m y n z (f m refl) (g n refl))

both_above : (o p : Option ℤ) (y z : ℤ) → IsAbove o y → IsAbove p z
    → IsAbove (option_and_then (λ m. option_map (λ n. m +ℤ n) p) o) (y +ℤ z)
both_above None p y z f g = none_above (y +ℤ z)
both_above (Some m) None y z f g = none_above (y +ℤ z)
both_above (Some m) (Some n) y z f g = above_at (m +ℤ n) (y +ℤ z) (sum_le y m z n (f m refl) (g n refl))

pub least_below : (v : Valuation) (lower upper : Variable → Option ℤ)
    → ((x : Variable) → IsBelow (lower x) (value_of v x)) → ((x : Variable) → IsAbove (upper x) (value_of v x))
    → (ss : List Summand) → IsBelow (least_by lower upper ss) (value_of_sum v ss)
least_below v lower upper f g [] = below_at (pos 0) (pos 0) (≤ℤ_refl (pos 0))
least_below v lower upper f g (s ∷ ss) =
    both_below (least_product lower upper s) (least_by lower upper ss) (s.0 *ℤ value_of v s.1) (value_of_sum v ss)
    (product_below (lower s.1) (upper s.1) s.0 (value_of v s.1) (f s.1) (g s.1))
    (least_below v lower upper f g ss)

pub greatest_above : (v : Valuation) (lower upper : Variable → Option ℤ)
    → ((x : Variable) → IsAbove (lower x) (value_of v x)) → ((x : Variable) → IsBelow (upper x) (value_of v x))
    → (ss : List Summand) → IsAbove (least_by lower upper ss) (value_of_sum v ss)
greatest_above v lower upper f g [] = above_at (pos 0) (pos 0) (≤ℤ_refl (pos 0))
greatest_above v lower upper f g (s ∷ ss) =
    both_above (least_product lower upper s) (least_by lower upper ss) (s.0 *ℤ value_of v s.1) (value_of_sum v ss)
    (product_above (lower s.1) (upper s.1) s.0 (value_of v s.1) (f s.1) (g s.1))
    (greatest_above v lower upper f g ss)

-- What false literals deny holds.

bounds_append : (v : Valuation) (bs more : List Bound) → BoundsHold v bs → BoundsHold v more
    → BoundsHold v (bs ++ more)
bounds_append v [] more f g = g
bounds_append v (b ∷ bs) more f g = (f.0, bounds_append v bs more f.1 g)

denied_by : (v : Valuation) (p : Bool) (o : Option Atom)
    → ((x : Variable) (k : ℤ) → o ≡ Some (le_atom x k)
    → (let b = int_le (value_of v x) k in if p then b else not b) ≡ false)
    → BoundsHold v (bound_denied p o)
denied_by v true (Some (le_atom x k)) h = (next_from_test (value_of v x) k (h x k refl), tt)
denied_by v false (Some (le_atom x k)) h =
    (le_from_test (value_of v x) k (not-false (int_le (value_of v x) k) (h x k refl)), tt)
denied_by v true _ h = tt
denied_by v false _ h = tt

denied : (v : Valuation) (atoms : List Atom) (clause : List Lit)
    → list_any (literal_holds (truths_of v atoms)) clause ≡ false → BoundsHold v (bounds_denied atoms clause)
denied v atoms [] h = tt
denied v atoms (l ∷ ls) h =
    let parts = or_parts (literal_holds (truths_of v atoms) l) (list_any (literal_holds (truths_of v atoms)) ls) h in
    bounds_append v (bound_denied l.positive (atom_of atoms l)) (bounds_denied atoms ls)
    (denied_by v l.positive (atom_of atoms l)
    (λ x k there. sym (literal_holds-atom v atoms l (le_atom x k) there) ∙ parts.0))
    (denied v atoms ls parts.1)

-- By bounds that hold, a forced literal of a sum is true.

pub record Passed (test : ℤ → Bool) (o : Option ℤ) : Type 0 where
  pub number : ℤ
  pub there : o ≡ Some number
  pub good : test number ≡ true

pub passed : (test : ℤ → Bool) (o : Option ℤ) → passes test o ≡ true → Passed test o
passed test None h = absurd (Prim.cc (h))
passed test (Some n) h = record { number = n; there = refl; good = h }

forced_by : (v : Valuation) (bs : List Bound) → BoundsHold v bs → (p : Bool) (o : Option Atom)
    → is_forced bs p o ≡ true → (b : Bool)
    → ((k : ℤ) (ss : List Summand) → o ≡ Some (sum_atom k ss)
    → b ≡ (let t = int_le (value_of_sum v ss) k in if p then t else not t))
    → b ≡ true
forced_by v bs holds true (Some (sum_atom k ss)) f b h =
    let at = passed (λ n. int_le n k) (greatest_sum bs ss) f in
    h k ss refl ∙ le_from_below (value_of_sum v ss) at.number k
    (greatest_above v (upper_in bs) (lower_in bs) (upper_above v bs holds) (lower_below v bs holds) ss at.number
    at.there)
    at.good
forced_by v bs holds false (Some (sum_atom k ss)) f b h =
    let at = passed (λ n. int_lt k n) (least_sum bs ss) f in
    h k ss refl ∙ ap not (not_le_from_above at.number (value_of_sum v ss) k
    (least_below v (lower_in bs) (upper_in bs) (lower_below v bs holds) (upper_above v bs holds) ss at.number at.there)
    at.good)
forced_by v bs holds true _ f b h = absurd (Prim.cc (f))
forced_by v bs holds false _ f b h = absurd (Prim.cc (f))

-- a literal that a filter keeps is in the list
any_kept : (test good : Lit → Bool) (ls : List Lit) (l : Lit) → filter test ls ≡ l ∷ [] → good l ≡ true
    → list_any good ls ≡ true
any_kept test good [] l kept h = absurd (Prim.cc (kept))
any_kept test good (m ∷ ls) l kept h = step (test m) kept (λ e. any_kept test good ls l e h)
  where
    step : (b : Bool) → cond b (m ∷ filter test ls) (filter test ls) ≡ l ∷ []
        → (filter test ls ≡ l ∷ [] → list_any good ls ≡ true) → list_any good (m ∷ ls) ≡ true
    step true e more =
        let same : l ≡ m = Prim.cc (e) in
        or_left (good m) (list_any good ls) (ap good (sym same) ∙ h)
    step false e more = or_right (good m) (list_any good ls) (more e)

forced_holds : (v : Valuation) (atoms : List Atom) (clause : List Lit)
    → list_any (literal_holds (truths_of v atoms)) clause ≡ false → (sums : List Lit)
    → filter (λ l. is_sum_bound (atom_of atoms l)) clause ≡ sums → is_forced_sum atoms clause sums ≡ true
    → clause_holds v atoms clause ≡ true
forced_holds v atoms clause denies [] kept f = absurd (Prim.cc (f))
forced_holds v atoms clause denies (l ∷ m ∷ ls) kept f = absurd (Prim.cc (f))
forced_holds v atoms clause denies (l ∷ []) kept f =
    any_kept (λ l. is_sum_bound (atom_of atoms l)) (literal_holds (truths_of v atoms)) clause l kept
    (forced_by v (bounds_denied atoms clause) (denied v atoms clause denies) l.positive (atom_of atoms l) f
    (literal_holds (truths_of v atoms) l) (λ k ss there. literal_holds-atom v atoms l (sum_atom k ss) there))

pub clause_of_sum_holds : (v : Valuation) (atoms : List Atom) (clause : List Lit) → is_linear atoms clause ≡ true
    → clause_holds v atoms clause ≡ true
clause_of_sum_holds v atoms clause linear = step (clause_holds v atoms clause) refl
  where
    step : (b : Bool) → clause_holds v atoms clause ≡ b → clause_holds v atoms clause ≡ true
    step true e = e
    step false e =
        let parts = and_parts (list_all (λ l. is_sum_bound (atom_of atoms l) || is_bound (atom_of atoms l)) clause)
        (is_forced_sum atoms clause (filter (λ l. is_sum_bound (atom_of atoms l)) clause)) linear in
        forced_holds v atoms clause e (filter (λ l. is_sum_bound (atom_of atoms l)) clause) refl parts.1
