-- The numbers that wait for their derivatives.
use Rattle.std.proofs.Common.{◌≡◌, ℕ, zero, suc, ◌+◌, ◌*◌, ◌<◌, ◌≤◌, Bool, true, false, cond, Some, None, Option, List, [], ◌∷◌, ◌++◌, length, get_or, set, refl, sym, ap, ap₂, subst, ◌∙◌, arith, ◌⊎◌, inl, inr}
use Rattle.std.specs.Prelude.{nat_lt, ◌||◌, is_some, IsSome, IfSome, unwrap_or}
use Rattle.std.specs.List.{All, list_any}
use Rattle.std.specs.Ordering.{nat_cmp, match_ordering}
use Rattle.std.specs.BTreeSet.{insert_key}
use Rattle.std.proofs.lemmas.Bool.{or_left, or_right}
use Rattle.std.proofs.lemmas.Map.Views.{All-insert_key}
use Rattle.std.proofs.lemmas.Bool.Decides.{nat_tests}
use Rattle.std.proofs.lemmas.List.{length-set}
use Rattle.std.proofs.lemmas.List.Elements.{All-nil}
use Rattle.std.specs.declared.cmp.Ordering.{Ordering}
use Rattle.std.specs.declared.cmp.Ordering.TheVariants.{Less, Equal, Greater}
use Rattle.sb_lang.specs.Regex.{Regex}
use Rattle.sb_lang.specs.Derivative.{nd}
use Rattle.sb_regex.specs.Numbered.{regex_at, Extends}
use Rattle.sb_deriv.specs.Faithful.{Memo, entry_of, IsFaithful, IsKnown, IsDerivative, KeepsEntries}
use Rattle.sb_deriv.specs.Choices.{IsWanted, lacking}
use Rattle.sb_regex.proofs.CallerLemmas.{extends_more, number_kept, at_kept}
use Rattle.sb_deriv.proofs.Derivatives.{faithful_kept, map_same}

pub no_entry : {A : Type 0} (o : Option A) → is_some o ≡ false → o ≡ None
no_entry None h = refl
no_entry (Some x) h = absurd (cc)

any_inserted : (p : ℕ → Bool) (k : ℕ) (ks : List ℕ) → list_any p ks ≡ true → list_any p (insert_key nat_cmp ks k) ≡ true
any_inserted p k [] h = absurd (cc)
any_inserted p k (x ∷ xs) h = step (nat_cmp k x) (λ r. any_inserted p k xs r)
  where
    either : (list_any p xs ≡ true → list_any p (insert_key nat_cmp xs k) ≡ true) → (b : Bool) → p x ≡ b
        → (p x || list_any p (insert_key nat_cmp xs k)) ≡ true
    either r true e = or_left (p x) _ e
    either r false e = or_right (p x) _ (r (ap (λ b. b || list_any p xs) (sym e) ∙ h))

    step : (o : Ordering) → (list_any p xs ≡ true → list_any p (insert_key nat_cmp xs k) ≡ true)
        → list_any p (match_ordering o (k ∷ x ∷ xs) (x ∷ xs) (x ∷ insert_key nat_cmp xs k)) ≡ true
    step Less r = or_right (p k) _ h
    step Equal r = h
    step Greater r = either r (p x) refl

equal_is : (a b : ℕ) → nat_cmp a b ≡ Equal → a ≡ b
equal_is a b h = grind (arith, nat_tests)

pub less_is : (a b : ℕ) → nat_cmp a b ≡ Less → a < b
less_is a b h = grind (arith, nat_tests)

any_insert : (p : ℕ → Bool) (k : ℕ) (ks : List ℕ) → p k ≡ true → list_any p (insert_key nat_cmp ks k) ≡ true
any_insert p k [] h = or_left (p k) false h
any_insert p k (x ∷ xs) h = step (nat_cmp k x) refl (any_insert p k xs h)
  where
    step : (o : Ordering) → nat_cmp k x ≡ o → list_any p (insert_key nat_cmp xs k) ≡ true
        → list_any p (match_ordering o (k ∷ x ∷ xs) (x ∷ xs) (x ∷ insert_key nat_cmp xs k)) ≡ true
    step Less e r = or_left (p k) _ h
    step Equal e r = or_left (p x) _ (ap p (sym (equal_is k x e)) ∙ h)
    step Greater e r = or_right (p x) _ r

lt_test : (a b : ℕ) → a < b → nat_lt a b ≡ true
lt_test a b h = grind (arith, nat_tests)

lt_tells : (a b : ℕ) → nat_lt a b ≡ true → a < b
lt_tells a b h = grind (arith, nat_tests)

pub record Wanting (memo : Memo) (parts : List ℕ) (k : ℕ) (some : Bool) (old new : List ℕ) : Type 0 where
  pub known : some ≡ false → (i d : ℕ) → i < k → IsSome (entry_of memo (get_or parts i d))
  pub idle : some ≡ false → new ≡ old
  pub waits : some ≡ true → (n : ℕ) → All (λ i. i < n) parts → list_any (λ q. nat_lt q n) new ≡ true
  pub added : (n : ℕ) → All (λ i. i < n) parts → All (IsWanted n memo) old → All (IsWanted n memo) new

pub wanting_init : (memo : Memo) (parts keys : List ℕ) → Wanting memo parts 0 false keys keys
wanting_init memo parts keys = record {
  known = λ f i d l. absurd (omega arith);
  idle = λ f. refl;
  waits = λ t. absurd (cc);
  added = λ n b h. h;
}

pub wanting_skip : (memo : Memo) (parts : List ℕ) (k : ℕ) (some : Bool) (old new : List ℕ) (x : ℕ)
    → Wanting memo parts k some old new → k < length parts → x ≡ get_or parts k x → is_some (entry_of memo x) ≡ true
    → Wanting memo parts (k + 1) some old new
wanting_skip memo parts k some old new x w l is e = record {
  known = λ f i d m. at f i d m;
  idle = w.idle;
  waits = w.waits;
  added = w.added;
}
  where
    same : (xs : List ℕ) (i d d' : ℕ) → i < length xs → get_or xs i d ≡ get_or xs i d'
    same [] i d d' m = absurd (omega arith)
    same (y ∷ ys) zero d d' m = refl
    same (y ∷ ys) (suc i) d d' m = same ys i d d' (omega (arith, m))

    here : (i d : ℕ) → i ≡ k → IsSome (entry_of memo (get_or parts i d))
    here i d z = subst (λ (y : ℕ). IsSome (entry_of memo y))
        (is ∙ same parts k x d l ∙ ap (λ j. get_or parts j d) (sym z)) e

    at : some ≡ false → (i d : ℕ) → i < k + 1 → IsSome (entry_of memo (get_or parts i d))
    at f i d m = choose (nat_lt i k) refl
      where
        choose : (b : Bool) → nat_lt i k ≡ b → IsSome (entry_of memo (get_or parts i d))
        choose true h = w.known f i d (lt_tells i k h)
        choose false h = here i d (grind (arith, nat_tests))

pub wanting_add : (memo : Memo) (parts : List ℕ) (k : ℕ) (some : Bool) (old new new' : List ℕ) (x : ℕ)
    → Wanting memo parts k some old new → k < length parts → x ≡ get_or parts k x → is_some (entry_of memo x) ≡ false
    → new' ≡ insert_key nat_cmp new x → Wanting memo parts (k + 1) true old new'
wanting_add memo parts k some old new new' x w l is e keys = record {
  known = λ f. absurd (cc);
  idle = λ f. absurd (cc);
  waits = λ t n b. ap (list_any (λ q. nat_lt q n)) keys ∙ any_insert (λ q. nat_lt q n) x new (lt_test x n (below n b));
  added = λ n b h. subst (All (IsWanted n memo)) (sym keys)
      (All-insert_key nat_cmp x (IsWanted n memo) new (w.added n b h) (below n b, no_entry (entry_of memo x) e));
}
  where
    below : (n : ℕ) → All (λ i. i < n) parts → x < n
    below n b = subst (λ (y : ℕ). y < n) (sym is) (b k x l)

-- a memo with one more entry

pub room_same : (memo memo' : Memo) (n : ℕ) → memo' ≡ memo ++ None ∷ [] → entry_of memo' n ≡ entry_of memo n
room_same memo memo' n is = ap (λ x. entry_of x n) is ∙ pushed memo n
  where
    nothing : (n : ℕ) → entry_of (None ∷ []) n ≡ entry_of [] n
    nothing zero = refl
    nothing (suc n) = refl

    pushed : (m : Memo) (n : ℕ) → entry_of (m ++ None ∷ []) n ≡ entry_of m n
    pushed [] n = nothing n
    pushed (x ∷ m) zero = refl
    pushed (x ∷ m) (suc n) = pushed m n

pub set_here : (memo : Memo) (i : ℕ) (m : List (ℕ × ℕ)) → i < length memo → entry_of (set memo i (Some m)) i ≡ Some m
set_here [] i m l = absurd (omega arith)
set_here (x ∷ xs) zero m l = refl
set_here (x ∷ xs) (suc i) m l = set_here xs i m (omega (arith, l))

pub set_other : (memo : Memo) (i j : ℕ) (m : List (ℕ × ℕ)) → (i ≡ j → ⊥)
    → entry_of (set memo i (Some m)) j ≡ entry_of memo j
set_other [] i j m n = refl
set_other (x ∷ xs) zero zero m n = absurd (n refl)
set_other (x ∷ xs) zero (suc j) m n = refl
set_other (x ∷ xs) (suc i) zero m n = refl
set_other (x ∷ xs) (suc i) (suc j) m n = set_other xs i j m (λ e. n (ap suc e))

pub lacking_set : (memo : Memo) (i : ℕ) (m : List (ℕ × ℕ)) → i < length memo → entry_of memo i ≡ None
    → lacking (set memo i (Some m)) < lacking memo
lacking_set [] i m l e = absurd (omega arith)
lacking_set (None ∷ xs) zero m l e = omega arith
lacking_set (Some y ∷ xs) zero m l e = absurd (cc)
lacking_set (None ∷ xs) (suc i) m l e = let r : lacking (set xs i (Some m)) < lacking xs =
    lacking_set xs i m (omega (arith, l)) e in omega arith
lacking_set (Some y ∷ xs) (suc i) m l e = lacking_set xs i m (omega (arith, l)) e

same_number : (i j : ℕ) → ((i ≡ j) × Unit {0}) ⊎ (i ≡ j → ⊥)
same_number i j = step (nat_lt i j) (nat_lt j i) refl refl
  where
    step : (a b : Bool) → nat_lt i j ≡ a → nat_lt j i ≡ b → ((i ≡ j) × Unit {0}) ⊎ (i ≡ j → ⊥)
    step true b p q = inr (λ e. grind (arith, nat_tests))
    step false true p q = inr (λ e. grind (arith, nat_tests))
    step false false p q = inl (grind (arith, nat_tests), tt)

pub set_faithful : (rs rs' : List Regex) (memo memo' : Memo) (i : ℕ) (m : List (ℕ × ℕ)) → memo' ≡ set memo i (Some m)
    → IsFaithful rs memo → Extends rs rs' → i < length rs → i < length memo →
    IsDerivative rs' (regex_at rs i) m → IsFaithful rs' memo'
set_faithful rs rs' memo memo' i m is f e l k d n pieces h =
    elim (same_number i n) [
      | inl p ↦
          let z : Some m ≡ Some pieces = sym (set_here memo i m k) ∙ ap (λ x. entry_of x i) (sym is)
          ∙ ap (entry_of memo') p.0 ∙ h in
          let y : m ≡ pieces = cc in
          subst (λ (j : ℕ). IsKnown rs' j pieces) p.0 (subst (λ (x : List (ℕ × ℕ)). IsKnown rs' i x) y (record {
            number = number_kept rs rs' i e l;
            derivative = map_same rs' (nd (regex_at rs i)) (nd (regex_at rs' i)) m
                (λ c u. ap (λ r. nd r c) (sym (at_kept rs rs' i e l))) d;
          }))
      | inr q ↦ faithful_kept rs rs' memo e f n pieces (sym (set_other memo i n m q) ∙ ap (λ x. entry_of x n) (sym is)
          ∙ h)
    ]

-- the loop

pub record Deriving (rs0 rs : List Regex) (memo0 memo : Memo) (r next : ℕ) (keys : List ℕ) : Type 0 where
  pub extends : Extends rs0 rs
  pub faithful : IsFaithful rs memo
  pub kept : KeepsEntries memo0 memo
  pub long : r < length memo
  pub next_in : next ≤ r
  pub next_lacks : entry_of memo r ≡ None → entry_of memo next ≡ None
  pub wanted : All (IsWanted (suc r) memo) keys
  pub above : All (λ q. next < q) keys

pub deriving_init : (rs0 rs : List Regex) (memo0 memo : Memo) (r : ℕ) (keys : List ℕ) → Extends rs0 rs
    → IsFaithful rs0 memo0 → ((n : ℕ) → entry_of memo n ≡ entry_of memo0 n) → r < length memo → keys ≡ []
    → Deriving rs0 rs memo0 memo r r keys
deriving_init rs0 rs memo0 memo r keys e f same l is = record {
  extends = e;
  faithful = λ n pieces h. faithful_kept rs0 rs memo0 e f n pieces (sym (same n) ∙ h);
  kept = λ n pieces h. same n ∙ h;
  long = l;
  next_in = omega arith;
  next_lacks = λ h. h;
  wanted = subst (All (IsWanted (suc r) memo)) (sym is) (All-nil (IsWanted (suc r) memo));
  above = subst (All (λ q. r < q)) (sym is) (All-nil (λ q. r < q));
}

pub deriving_step : (rs0 rs rs' : List Regex) (memo0 memo memo' : Memo) (r next next' : ℕ) (keys keys' keys'' : List ℕ)
    (o : Option ℕ) →
    Deriving rs0 rs memo0 memo r next keys → Extends rs rs' → IsFaithful rs' memo' → KeepsEntries memo memo'
    → length memo' ≡ length memo →
    All (IsWanted (suc r) memo') keys' → next' ≡ unwrap_or o r → IfSome o (λ k. keys' ≡ k ∷ keys'')
    → IfSome o (λ k. All (λ q. nat_cmp k q ≡ Less) keys'') → length keys'' + cond (is_some o) 1 0 ≡ length keys'
    → (0 < length keys' → IsSome o) →
    Deriving rs0 rs' memo0 memo' r next' keys''
deriving_step rs0 rs rs' memo0 memo memo' r next next' keys keys' keys'' (Some k) v e f p l w n a b c d' =
    let z : keys' ≡ k ∷ keys'' = a in
    let w' : All (IsWanted (suc r) memo') (k ∷ keys'') = subst (All (IsWanted (suc r) memo')) z w in
    let k' : IsWanted (suc r) memo' k = w' 0 0 (omega arith) in
    record {
      extends = extends_more rs0 rs rs' v.extends e;
      faithful = f;
      kept = λ i x h. p i x (v.kept i x h);
      long = omega (arith, l, v.long);
      next_in = omega (arith, n, k'.0);
      next_lacks = λ h. ap (entry_of memo') n ∙ k'.1;
      wanted = λ i x m. w' (suc i) x (omega (arith, m));
      above = λ i x m. rw n (less_is k (get_or keys'' i x) (b i x m));
    }
deriving_step rs0 rs rs' memo0 memo memo' r next next' keys keys' keys'' None v e f p l w n a b c d' =
    let s : length keys' ≡ 0 = empty (length keys') refl in
    let q : length keys'' ≡ 0 = omega (arith, c, s) in
    record {
      extends = extends_more rs0 rs rs' v.extends e;
      faithful = f;
      kept = λ i x h. p i x (v.kept i x h);
      long = omega (arith, l, v.long);
      next_in = omega (arith, n);
      next_lacks = λ h. ap (entry_of memo') n ∙ h;
      wanted = λ i x m. absurd (omega (arith, q, m));
      above = λ i x m. absurd (omega (arith, q, m));
    }
  where
    empty : (n : ℕ) → length keys' ≡ n → length keys' ≡ 0
    empty zero h = h
    empty (suc n) h = let q : is_some {T = ℕ} None ≡ true = d' (omega arith) in absurd (cc)

product_falls : (a b k x y : ℕ) → a < b → x < k → a * k + x < b * k + y
product_falls a b k x y l m = let h : suc a * k ≤ b * k = grind (arith) in grind (arith, h)

pub set_in : (inside memo : Memo) (i j : ℕ) (m : List (ℕ × ℕ)) → inside ≡ memo → j ≡ i
    → set inside j (Some m) ≡ set memo i (Some m)
set_in inside memo i j m e n = ap₂ (λ xs k. set xs k (Some m)) e n

pub lacking_in : (memo memo' : Memo) (i : ℕ) (m : List (ℕ × ℕ)) → memo' ≡ set memo i (Some m) → i < length memo
    → entry_of memo i ≡ None → lacking memo' < lacking memo
lacking_in memo memo' i m is l e = subst (λ (x : Memo). lacking x < lacking memo) (sym is) (lacking_set memo i m l e)

pub set_kept : (memo memo' : Memo) (i : ℕ) (m : List (ℕ × ℕ)) → memo' ≡ set memo i (Some m) → entry_of memo i ≡ None
    → KeepsEntries memo memo'
set_kept memo memo' i m is e n pieces h =
    ap (λ x. entry_of x n) is
    ∙ set_other memo i n m (λ same. none_not pieces (sym e ∙ ap (entry_of memo) same ∙ h))
    ∙ h
  where
    none_not : (x : List (ℕ × ℕ)) → None ≡ Some x → ⊥
    none_not x h = cc

pub length_in : (memo memo' : Memo) (i : ℕ) (m : List (ℕ × ℕ)) → memo' ≡ set memo i (Some m)
    → length memo' ≡ length memo
length_in memo memo' i m is = ap length is ∙ length-set memo i (Some m)

pub any_after : (k : ℕ) (ks ks' : List ℕ) → ks' ≡ insert_key nat_cmp ks k → list_any (λ q. nat_lt q k) ks ≡ true
    → list_any (λ q. nat_lt q k) ks' ≡ true
any_after k ks ks' is h = ap (list_any (λ q. nat_lt q k)) is ∙ any_inserted (λ q. nat_lt q k) k ks h

pub wanted_after : (memo : Memo) (n k : ℕ) (ks ks' : List ℕ) → ks' ≡ insert_key nat_cmp ks k → k < n
    → entry_of memo k ≡ None → All (IsWanted n memo) ks → All (IsWanted n memo) ks'
wanted_after memo n k ks ks' is l e h =
    subst (All (IsWanted n memo)) (sym is) (All-insert_key nat_cmp k (IsWanted n memo) ks h (l, e))

least_falls : (k n : ℕ) (ks : List ℕ) → list_any (λ q. nat_lt q n) (k ∷ ks) ≡ true → All (λ q. nat_cmp k q ≡ Less) ks
    → k < n
least_falls k n ks h a = step (nat_lt k n) refl
  where
    later : (xs : List ℕ) → list_any (λ q. nat_lt q n) xs ≡ true → All (λ q. nat_cmp k q ≡ Less) xs → k < n
    later [] e b = absurd (cc)
    later (x ∷ xs) e b = either (nat_lt x n) refl (λ r. later xs r (λ i d l. b (suc i) d (omega (arith, l))))
      where
        either : (u : Bool) → nat_lt x n ≡ u → (list_any (λ q. nat_lt q n) xs ≡ true → k < n) → k < n
        either true v f = let y : k < x = less_is k x (b 0 0 (omega arith)) in let z : x < n = lt_tells x n v in
            omega arith
        either false v f = f (ap (λ t. t || list_any (λ q. nat_lt q n) xs) (sym v) ∙ e)

    step : (u : Bool) → nat_lt k n ≡ u → k < n
    step true v = lt_tells k n v
    step false v = later ks (ap (λ t. t || list_any (λ q. nat_lt q n) ks) (sym v) ∙ h) a

-- the measure
pub measure_falls : (memo memo' : Memo) (r next next' : ℕ) (keys' keys'' : List ℕ) (o : Option ℕ) (added : Bool) →
    next' ≤ r → (added ≡ true → lacking memo' < lacking memo) → (added ≡ false → lacking memo' ≡ lacking memo)
    → (added ≡ false → list_any (λ q. nat_lt q next) keys' ≡ true) →
    next' ≡ unwrap_or o r → IfSome o (λ k. keys' ≡ k ∷ keys'') → IfSome o (λ k. All (λ q. nat_cmp k q ≡ Less) keys'')
    → (0 < length keys' → IsSome o) →
    lacking memo' * (r + 1) + next' < lacking memo * (r + 1) + next
measure_falls memo memo' r next next' keys' keys'' o true l a b w n p q d =
    product_falls (lacking memo') (lacking memo) (r + 1) next' next (a refl) (omega (arith, l))
measure_falls memo memo' r next next' keys' keys'' (Some k) false l a b w n p q d =
    let z : keys' ≡ k ∷ keys'' = p in
    let f : k < next = least_falls k next keys'' (ap (list_any (λ x. nat_lt x next)) (sym z) ∙ w refl) q in
    let e : lacking memo' * (r + 1) ≡ lacking memo * (r + 1) = ap (λ x. x * (r + 1)) (b refl) in
    omega (arith, e, f, n)
measure_falls memo memo' r next next' [] keys'' None false l a b w n p q d =
    let x : list_any (λ x. nat_lt x next) [] ≡ true = w refl in absurd (cc)
measure_falls memo memo' r next next' (k ∷ ks) keys'' None false l a b w n p q d = let x : is_some {T = ℕ} None ≡ true =
    d (omega arith) in absurd (cc)
