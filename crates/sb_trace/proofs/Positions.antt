-- The numbers of regexes in an order.
use Rattle.std.proofs.Common.{◌≡◌, ℕ, suc, ◌+◌, ◌<◌, Bool, true, false, cond, ◌||◌, nat_eq, List, [], ◌∷◌, ◌++◌, length, slice_get, Option, Some, None, is_some, refl, sym, ap, ◌∙◌, ◌⊎◌, inl, inr, arith}
use Rattle.std.specs.List.{position, position_from, list_any}
use Rattle.std.proofs.lemmas.Bool.{false≢true}
use Rattle.std.proofs.lemmas.Bool.Decides.{nat_tests}
use Rattle.std.proofs.lemmas.Iterator.Adapters.{position_from-zero}
use Rattle.std.proofs.lemmas.Option.{slice_get_within}
use Rattle.indexmap.specs.IndexSet.{insert_key}
use Rattle.sb_trace.specs.Tracking.{number_in}

pub nat_same : (n m : ℕ) → nat_eq n m ≡ true → n ≡ m
nat_same n m h = grind (arith, nat_tests)

pub same_nat : (n m : ℕ) → n ≡ m → nat_eq n m ≡ true
same_nat n m h = grind (arith, nat_tests)

-- what an index set says of a regex
pub number_from_index : (order : List ℕ) (n : ℕ) (o : Option ℕ) → o ≡ position (nat_eq n) order → o ≡ number_in order n
number_from_index order n o h = h ∙ position_from-zero (nat_eq n) order

-- Where a regex stands.

pub record IsFrom (order : List ℕ) (n i k : ℕ) : Type 0 where
  pub index : ℕ
  pub is : k ≡ i + index
  pub there : slice_get order index ≡ Some n

pub position-found : (order : List ℕ) (n i k : ℕ) → position_from (nat_eq n) i order ≡ Some k → IsFrom order n i k
position-found [] n i k h = absurd (cc)
position-found (x ∷ xs) n i k h = step (nat_eq n x) refl h (position-found xs n (i + 1) k)
  where
    later : IsFrom xs n (i + 1) k → IsFrom (x ∷ xs) n i k
    later f = record { index = suc f.index; is = f.is ∙ omega arith; there = f.there }

    step : (b : Bool) → nat_eq n x ≡ b → cond b (Some i) (position_from (nat_eq n) (i + 1) xs) ≡ Some k
        → (position_from (nat_eq n) (i + 1) xs ≡ Some k → IsFrom xs n (i + 1) k) → IsFrom (x ∷ xs) n i k
    step true is h more =
        let e : i ≡ k = cc in
        record { index = 0; is = sym e ∙ omega arith; there = ap Some (sym (nat_same n x is)) }
    step false is h more = later (more h)

pub number-there : (order : List ℕ) (n k : ℕ) → number_in order n ≡ Some k → slice_get order k ≡ Some n
number-there order n k h =
    let f = position-found order n 0 k h in
    let e : k ≡ f.index = f.is ∙ omega arith in
    ap (slice_get order) e ∙ f.there

pub number-below : (order : List ℕ) (n k : ℕ) → number_in order n ≡ Some k → k < length order
number-below order n k h = slice_get_within order k n (number-there order n k h)

-- Orders that grow.

position-stays : (t : ℕ → Bool) (order more : List ℕ) (i k : ℕ) → position_from t i order ≡ Some k
    → position_from t i (order ++ more) ≡ Some k
position-stays t [] more i k h = absurd (cc)
position-stays t (x ∷ xs) more i k h = step (t x) h (position-stays t xs more (i + 1) k)
  where
    step : (b : Bool) → cond b (Some i) (position_from t (i + 1) xs) ≡ Some k
        → (position_from t (i + 1) xs ≡ Some k → position_from t (i + 1) (xs ++ more) ≡ Some k)
        → cond b (Some i) (position_from t (i + 1) (xs ++ more)) ≡ Some k
    step true h later = h
    step false h later = later h

pub number-stays : (order more : List ℕ) (n k : ℕ) → number_in order n ≡ Some k → number_in (order ++ more) n ≡ Some k
number-stays order more n k h = position-stays (nat_eq n) order more 0 k h

position-last : (order : List ℕ) (n i : ℕ) → position_from (nat_eq n) i order ≡ None
    → position_from (nat_eq n) i (order ++ n ∷ []) ≡ Some (i + length order)
position-last [] n i h =
    ap (λ b. cond b (Some i) (position_from (nat_eq n) (i + 1) [])) (same_nat n n refl) ∙ ap Some (omega arith)
position-last (x ∷ xs) n i h = step (nat_eq n x) h (position-last xs n (i + 1))
  where
    step : (b : Bool) → cond b (Some i) (position_from (nat_eq n) (i + 1) xs) ≡ None
        → (position_from (nat_eq n) (i + 1) xs ≡ None
        → position_from (nat_eq n) (i + 1) (xs ++ n ∷ []) ≡ Some (i + 1 + length xs))
        → cond b (Some i) (position_from (nat_eq n) (i + 1) (xs ++ n ∷ [])) ≡ Some (i + suc (length xs))
    step true h later = absurd (cc)
    step false h later = later h ∙ ap Some (omega arith)

-- the last regex of an order has a number
pub number-last : (order : List ℕ) (n : ℕ) → number_in order n ≡ None → is_some (number_in (order ++ n ∷ []) n) ≡ true
number-last order n h = ap is_some (position-last order n 0 h)

-- one that has a number with one regex more had one before, or is that one
position-before : (order : List ℕ) (m n i : ℕ) → is_some (position_from (nat_eq n) i (order ++ m ∷ [])) ≡ true
    → (is_some (position_from (nat_eq n) i order) ≡ true) ⊎ (n ≡ m)
position-before [] m n i h = step (nat_eq n m) refl h
  where
    step : (b : Bool) → nat_eq n m ≡ b → is_some (cond b (Some i) None) ≡ true → (false ≡ true) ⊎ (n ≡ m)
    step true is h = inr (nat_same n m is)
    step false is h = inl h
position-before (x ∷ order) m n i h = step (nat_eq n x) h (position-before order m n (i + 1))
  where
    step : (b : Bool) → is_some (cond b (Some i) (position_from (nat_eq n) (i + 1) (order ++ m ∷ []))) ≡ true
        → (is_some (position_from (nat_eq n) (i + 1) (order ++ m ∷ [])) ≡ true
        → (is_some (position_from (nat_eq n) (i + 1) order) ≡ true) ⊎ (n ≡ m))
        → (is_some (cond b (Some i) (position_from (nat_eq n) (i + 1) order)) ≡ true) ⊎ (n ≡ m)
    step true h rest = inl refl
    step false h rest = rest h

pub numbered-before : (order : List ℕ) (m n : ℕ) → is_some (number_in (order ++ m ∷ []) n) ≡ true
    → (is_some (number_in order n) ≡ true) ⊎ (n ≡ m)
numbered-before order m n h = position-before order m n 0 h

some-true : (o : Option ℕ) → is_some o ≡ true → (k : ℕ) × (o ≡ Some k)
some-true None h = absurd (false≢true h)
some-true (Some k) h = (k, refl)

pub numbered-stays : (order more : List ℕ) (n : ℕ) → is_some (number_in order n) ≡ true
    → is_some (number_in (order ++ more) n) ≡ true
numbered-stays order more n h =
    let k = some-true (number_in order n) h in ap is_some (number-stays order more n k.0 k.1)

pub none-false : (o : Option ℕ) → is_some o ≡ false → o ≡ None
none-false None h = refl
none-false (Some k) h = absurd (false≢true (sym h))

position-missing : (t : ℕ → Bool) (order : List ℕ) (i : ℕ) → position_from t i order ≡ None → list_any t order ≡ false
position-missing t [] i h = refl
position-missing t (x ∷ xs) i h = step (t x) h (position-missing t xs (i + 1))
  where
    step : (b : Bool) → cond b (Some i) (position_from t (i + 1) xs) ≡ None
        → (position_from t (i + 1) xs ≡ None → list_any t xs ≡ false) → (b || list_any t xs) ≡ false
    step true h later = absurd (cc)
    step false h later = later h

pub number-missing : (order : List ℕ) (n : ℕ) → number_in order n ≡ None → list_any (nat_eq n) order ≡ false
number-missing order n h = position-missing (nat_eq n) order 0 h

pub insert-missing : (order new : List ℕ) (n : ℕ) → number_in order n ≡ None → new ≡ insert_key nat_eq order n
    → new ≡ order ++ n ∷ []
insert-missing order new n h e = e ∙ ap (λ b. cond b order (order ++ n ∷ [])) (number-missing order n h)
