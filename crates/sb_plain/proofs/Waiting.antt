-- The numbers that wait for their derivatives.
use Rattle.std.proofs.Common.{◌≡◌, ℕ, zero, suc, ◌+◌, ◌*◌, ◌<◌, ◌≤◌, Bool, true, false, cond, Some, None, Option, List, [], ◌∷◌, ◌++◌, length, get_or, map, take, refl, sym, ap, subst, ◌∙◌, arith}
use Rattle.std.specs.Prelude.{nat_lt, ◌||◌, is_some, IsSome, IfSome, unwrap_or}
use Rattle.std.specs.List.{All, list_any}
use Rattle.std.specs.Ordering.{nat_cmp, match_ordering}
use Rattle.std.specs.BTreeSet.{insert_key}
use Rattle.std.proofs.lemmas.Bool.{or_left, or_right}
use Rattle.std.proofs.lemmas.Map.Views.{All-insert_key}
use Rattle.std.proofs.lemmas.Bool.Decides.{nat_tests}
use Rattle.std.proofs.lemmas.List.{take_more, map-append}
use Rattle.std.proofs.lemmas.List.Elements.{All-nil}
use Rattle.std.specs.declared.cmp.Ordering.{Ordering}
use Rattle.std.specs.declared.cmp.Ordering.TheVariants.{Less, Equal, Greater}
use Rattle.sb_lang.specs.Regex.{Regex}
use Rattle.sb_regex.specs.Numbered.{Extends}
use Rattle.sb_regex.proofs.CallerLemmas.{extends_more}
use Rattle.sb_plain.specs.Memory.{Learnt, LearntIsRight}
use Rattle.sb_plain.specs.Making.{found, is_found, target_at, IsWanted, lacking}

-- some key, after one more

any_inserted : (p : ℕ → Bool) (k : ℕ) (ks : List ℕ) → list_any p ks ≡ true → list_any p (insert_key nat_cmp ks k) ≡ true
any_inserted p k [] h = absurd (cc)
any_inserted p k (x ∷ xs) h = step (nat_cmp k x) (λ r. any_inserted p k xs r)
  where
    either : (list_any p xs ≡ true → list_any p (insert_key nat_cmp xs k) ≡ true) → (b : Bool) → p x ≡ b
        → (p x || list_any p (insert_key nat_cmp xs k)) ≡ true
    either r true e = or_left (p x) _ e
    either r false e = or_right (p x) _ (r (ap (λ b. b || list_any p xs) (sym e) ∙ h))

    step : (o : Ordering) → (list_any p xs ≡ true → list_any p (insert_key nat_cmp xs k) ≡ true)
        → list_any p (match_ordering o (k ∷ x ∷ xs) (x ∷ xs) (x ∷ insert_key nat_cmp xs k)) ≡ true
    step Less r = or_right (p k) _ h
    step Equal r = h
    step Greater r = either r (p x) refl

equal_is : (a b : ℕ) → nat_cmp a b ≡ Equal → a ≡ b
equal_is a b h = grind (arith, nat_tests)

less_is : (a b : ℕ) → nat_cmp a b ≡ Less → a < b
less_is a b h = grind (arith, nat_tests)

any_insert : (p : ℕ → Bool) (k : ℕ) (ks : List ℕ) → p k ≡ true → list_any p (insert_key nat_cmp ks k) ≡ true
any_insert p k [] h = or_left (p k) false h
any_insert p k (x ∷ xs) h = step (nat_cmp k x) refl (any_insert p k xs h)
  where
    step : (o : Ordering) → nat_cmp k x ≡ o → list_any p (insert_key nat_cmp xs k) ≡ true
        → list_any p (match_ordering o (k ∷ x ∷ xs) (x ∷ xs) (x ∷ insert_key nat_cmp xs k)) ≡ true
    step Less e r = or_left (p k) _ h
    step Equal e r = or_left (p x) _ (ap p (sym (equal_is k x e)) ∙ h)
    step Greater e r = or_right (p x) _ r

lt_test : (a b : ℕ) → a < b → nat_lt a b ≡ true
lt_test a b h = grind (arith, nat_tests)

lt_tells : (a b : ℕ) → nat_lt a b ≡ true → a < b
lt_tells a b h = grind (arith, nat_tests)

-- one more part is looked at

pub record Wanting (m : Learnt) (c : ℕ) (parts : List ℕ) (k : ℕ) (some : Bool) (targets old new : List ℕ) : Type 0
  where
    pub known : some ≡ false → (i d : ℕ) → i < k → is_found m c (get_or parts i d) ≡ true
    pub made : some ≡ false → targets ≡ map (target_at m c) (take k parts)
    pub idle : some ≡ false → new ≡ old
    pub waits : some ≡ true → (n : ℕ) → All (λ i. i < n) parts → list_any (λ q. nat_lt q n) new ≡ true
    pub added : (n : ℕ) → All (λ i. i < n) parts → All (IsWanted n m c) old → All (IsWanted n m c) new

pub wanting_init : (m : Learnt) (c : ℕ) (parts targets keys : List ℕ) → targets ≡ []
    → Wanting m c parts 0 false targets keys keys
wanting_init m c parts targets keys none = record {
  known = λ f i d l. absurd (omega arith);
  made = λ f. none;
  idle = λ f. refl;
  waits = λ t. absurd (cc);
  added = λ n b h. h;
}

same_at : (xs : List ℕ) (i d e : ℕ) → i < length xs → get_or xs i d ≡ get_or xs i e
same_at [] i d e l = absurd (omega arith)
same_at (y ∷ ys) zero d e l = refl
same_at (y ∷ ys) (suc i) d e l = same_at ys i d e (omega (arith, l))

map_one_more : (f : ℕ → ℕ) (xs : List ℕ) (k d : ℕ) → k < length xs
    → map f (take (k + 1) xs) ≡ map f (take k xs) ++ f (get_or xs k d) ∷ []
map_one_more f xs k d l = ap (map f) (take_more xs k d l) ∙ map-append f (take k xs) (get_or xs k d ∷ [])

pub wanting_known : (m : Learnt) (c : ℕ) (parts : List ℕ) (k : ℕ) (some : Bool) (targets targets' old new : List ℕ)
    (x t : ℕ) → Wanting m c parts k some targets old new → k < length parts → x ≡ get_or parts k x
    → found m x c ≡ Some t → targets' ≡ targets ++ t ∷ [] → Wanting m c parts (k + 1) some targets' old new
wanting_known m c parts k some targets targets' old new x t w l is e more = record {
  known = λ f i d n. choose f i d n (nat_lt i k) refl;
  made = λ f. more ∙ ap (λ ts. ts ++ t ∷ []) (w.made f) ∙ sym (map_one_more (target_at m c) parts k x l
      ∙ ap (λ u. map (target_at m c) (take k parts) ++ u ∷ [])
      (ap (target_at m c) (sym is) ∙ ap (λ o. unwrap_or o 0) e));
  idle = w.idle;
  waits = w.waits;
  added = w.added;
}
  where
    choose : some ≡ false → (i d : ℕ) → i < k + 1 → (b : Bool) → nat_lt i k ≡ b
        → is_found m c (get_or parts i d) ≡ true
    choose f i d n true h = w.known f i d (lt_tells i k h)
    choose f i d n false h =
        let z : i ≡ k = grind (arith, nat_tests) in
        ap (is_found m c) (ap (λ j. get_or parts j d) z ∙ same_at parts k d x l ∙ sym is) ∙ ap is_some e

pub wanting_add : (m : Learnt) (c : ℕ) (parts : List ℕ) (k : ℕ) (some : Bool) (targets old new new' : List ℕ) (x : ℕ)
    → Wanting m c parts k some targets old new → k < length parts → x ≡ get_or parts k x → found m x c ≡ None
    → new' ≡ insert_key nat_cmp new x → Wanting m c parts (k + 1) true targets old new'
wanting_add m c parts k some targets old new new' x w l is e keys = record {
  known = λ f. absurd (cc);
  made = λ f. absurd (cc);
  idle = λ f. absurd (cc);
  waits = λ t n b. ap (list_any (λ q. nat_lt q n)) keys ∙ any_insert (λ q. nat_lt q n) x new (lt_test x n (below n b));
  added = λ n b h. subst (All (IsWanted n m c)) (sym keys)
      (All-insert_key nat_cmp x (IsWanted n m c) new (w.added n b h) (below n b, ap is_some e));
}
  where
    below : (n : ℕ) → All (λ i. i < n) parts → x < n
    below n b = subst (λ (y : ℕ). y < n) (sym is) (b k x l)

-- the number waits behind its parts

pub any_after : (k : ℕ) (ks ks' : List ℕ) → ks' ≡ insert_key nat_cmp ks k → list_any (λ q. nat_lt q k) ks ≡ true
    → list_any (λ q. nat_lt q k) ks' ≡ true
any_after k ks ks' is h = ap (list_any (λ q. nat_lt q k)) is ∙ any_inserted (λ q. nat_lt q k) k ks h

pub wanted_after : (m : Learnt) (c n k : ℕ) (ks ks' : List ℕ) → ks' ≡ insert_key nat_cmp ks k → k < n
    → is_found m c k ≡ false → All (IsWanted n m c) ks → All (IsWanted n m c) ks'
wanted_after m c n k ks ks' is l e h =
    subst (All (IsWanted n m c)) (sym is) (All-insert_key nat_cmp k (IsWanted n m c) ks h (l, e))

-- how many are lacking

lacking_same : (f g : ℕ → Bool) (x n : ℕ) → ((i : ℕ) → (i ≡ x → ⊥) → g i ≡ f i) → n ≤ x → lacking g n ≡ lacking f n
unfolding lacking
lacking_same f g x zero s l = refl
lacking_same f g x (suc n) s l =
    ap (λ b. lacking g n + cond b 0 1) (s n (λ e. absurd (omega (arith, l, e))))
    ∙ ap (λ k. k + cond (f n) 0 1) (lacking_same f g x n s (omega (arith, l)))

pub lacking_falls : (f g : ℕ → Bool) (x n : ℕ) → ((i : ℕ) → (i ≡ x → ⊥) → g i ≡ f i) → f x ≡ false → g x ≡ true → x < n
    → lacking g n < lacking f n
unfolding lacking
lacking_falls f g x zero s p q l = absurd (omega (arith, l))
lacking_falls f g x (suc n) s p q l = step (nat_lt x n) refl (lacking_falls f g x n s p q)
  where
    step : (b : Bool) → nat_lt x n ≡ b → (x < n → lacking g n < lacking f n) → lacking g (suc n) < lacking f (suc n)
    step true e k =
        let m : x < n = lt_tells x n e in
        let r : lacking g n < lacking f n = k m in
        let t : ◌≡◌ {A = ℕ} (cond (g n) 0 1) (cond (f n) 0 1) =
        ap (λ b. cond b 0 1) (s n (λ z. absurd (omega (arith, m, z)))) in
        omega (arith, r, t)
    step false e k =
        let z : x ≡ n = grind (arith, nat_tests) in
        let r : lacking g n ≡ lacking f n = lacking_same f g x n s (omega (arith, z)) in
        let u : ◌≡◌ {A = ℕ} (cond (g n) 0 1) 0 = ap (λ b. cond b 0 1) (ap g (sym z) ∙ q) in
        let v : ◌≡◌ {A = ℕ} (cond (f n) 0 1) 1 = ap (λ b. cond b 0 1) (ap f (sym z) ∙ p) in
        omega (arith, r, u, v)

-- the loop

pub record Deriving (rs0 rs : List Regex) (m : Learnt) (c r next : ℕ) (keys : List ℕ) : Type 0 where
  pub extends : Extends rs0 rs
  pub right : LearntIsRight rs m
  pub long : r < length m.1.0
  pub next_in : next ≤ r
  pub next_lacks : is_found m c r ≡ false → is_found m c next ≡ false
  pub wanted : All (IsWanted (suc r) m c) keys
  pub above : All (λ q. next < q) keys

pub deriving_init : (rs0 : List Regex) (m : Learnt) (c r : ℕ) (keys : List ℕ) → Extends rs0 rs0 → LearntIsRight rs0 m
    → r < length m.1.0 → keys ≡ [] → Deriving rs0 rs0 m c r r keys
deriving_init rs0 m c r keys e f l is = record {
  extends = e;
  right = f;
  long = l;
  next_in = omega arith;
  next_lacks = λ h. h;
  wanted = subst (All (IsWanted (suc r) m c)) (sym is) (All-nil (IsWanted (suc r) m c));
  above = subst (All (λ q. r < q)) (sym is) (All-nil (λ q. r < q));
}

-- what is done for a number: it is found, or numbers wait for it
pub record Advanced (m m' : Learnt) (c id : ℕ) (added : Bool) (keys keys' : List ℕ) : Type 0 where
  pub elsewhere : (n : ℕ) → (n ≡ id → ⊥) → found m' n c ≡ found m n c
  pub added_is : added ≡ true → (is_found m' c id ≡ true) × (keys' ≡ keys)
  pub same : added ≡ false → m' ≡ m
  pub waits : added ≡ false → list_any (λ q. nat_lt q id) keys' ≡ true
  pub wanted : added ≡ false → is_found m c id ≡ false → (n : ℕ) → id < n → All (IsWanted n m c) keys
      → All (IsWanted n m c) keys'

wanted_then : (m m' : Learnt) (c r id : ℕ) (added : Bool) (keys keys' : List ℕ) → Advanced m m' c id added keys keys'
    → id ≤ r → is_found m c id ≡ false → All (IsWanted (suc r) m c) keys → All (λ q. id < q) keys
    → All (IsWanted (suc r) m' c) keys'
wanted_then m m' c r id true keys keys' a l e w b =
    let p = a.added_is refl in
    subst (All (IsWanted (suc r) m' c)) (sym p.1) (λ i d n.
    let x = w i d n in
    let u : id < get_or keys i d = b i d n in
    (x.0, ap is_some (a.elsewhere (get_or keys i d) (λ z. absurd (omega (arith, u, z)))) ∙ x.1))
wanted_then m m' c r id false keys keys' a l e w b =
    subst (λ (x : Learnt). All (IsWanted (suc r) x c) keys') (sym (a.same refl))
    (a.wanted refl e (suc r) (omega (arith, l)) w)

-- what is taken from those that wait
pub record IsTaken (r next' : ℕ) (keys' keys'' : List ℕ) (o : Option ℕ) : Type 0 where
  pub next_is : next' ≡ unwrap_or o r
  pub removal : IfSome o (λ k. keys' ≡ k ∷ keys'')
  pub above : IfSome o (λ k. All (λ q. nat_cmp k q ≡ Less) keys'')
  pub len : length keys'' + cond (is_some o) 1 0 ≡ length keys'
  pub variant : 0 < length keys' → IsSome o

pub deriving_step : (rs0 rs rs' : List Regex) (m m' : Learnt) (c r next next' : ℕ) (keys keys' keys'' : List ℕ)
    (o : Option ℕ) (added : Bool) → is_found m c r ≡ false → Deriving rs0 rs m c r next keys → Extends rs rs'
    → LearntIsRight rs' m' → length m'.1.0 ≡ length m.1.0 → Advanced m m' c next added keys keys'
    → IsTaken r next' keys' keys'' o → Deriving rs0 rs' m' c r next' keys''
deriving_step rs0 rs rs' m m' c r next next' keys keys' keys'' (Some k) added lacks v e f l a t =
    let w = wanted_then m m' c r next added keys keys' a v.next_in (v.next_lacks lacks) v.wanted v.above in
    let w' : All (IsWanted (suc r) m' c) (k ∷ keys'') = subst (All (IsWanted (suc r) m' c)) t.removal w in
    let k' : IsWanted (suc r) m' c k = w' 0 0 (omega arith) in
    record {
      extends = extends_more rs0 rs rs' v.extends e;
      right = f;
      long = omega (arith, l, v.long);
      next_in = omega (arith, t.next_is, k'.0);
      next_lacks = λ h. ap (is_found m' c) t.next_is ∙ k'.1;
      wanted = λ i x n. w' (suc i) x (omega (arith, n));
      above = λ i x n. rw (t.next_is) (less_is k (get_or keys'' i x) (t.above i x n));
    }
deriving_step rs0 rs rs' m m' c r next next' keys keys' keys'' None added lacks v e f l a t =
    let s : length keys' ≡ 0 = empty (length keys') refl in
    let q : length keys'' ≡ 0 = omega (arith, t.len, s) in
    record {
      extends = extends_more rs0 rs rs' v.extends e;
      right = f;
      long = omega (arith, l, v.long);
      next_in = omega (arith, t.next_is);
      next_lacks = λ h. ap (is_found m' c) t.next_is ∙ h;
      wanted = λ i x n. absurd (omega (arith, q, n));
      above = λ i x n. absurd (omega (arith, q, n));
    }
  where
    empty : (n : ℕ) → length keys' ≡ n → length keys' ≡ 0
    empty zero h = h
    empty (suc n) h = let z : is_some {T = ℕ} None ≡ true = t.variant (omega arith) in absurd (cc)

product_falls : (a b k x y : ℕ) → a < b → x < k → a * k + x < b * k + y
product_falls a b k x y l m = let h : suc a * k ≤ b * k = grind (arith) in grind (arith, h)

least_falls : (k n : ℕ) (ks : List ℕ) → list_any (λ q. nat_lt q n) (k ∷ ks) ≡ true → All (λ q. nat_cmp k q ≡ Less) ks
    → k < n
least_falls k n ks h a = step (nat_lt k n) refl
  where
    later : (xs : List ℕ) → list_any (λ q. nat_lt q n) xs ≡ true → All (λ q. nat_cmp k q ≡ Less) xs → k < n
    later [] e b = absurd (cc)
    later (x ∷ xs) e b = either (nat_lt x n) refl (λ r. later xs r (λ i d l. b (suc i) d (omega (arith, l))))
      where
        either : (u : Bool) → nat_lt x n ≡ u → (list_any (λ q. nat_lt q n) xs ≡ true → k < n) → k < n
        either true v f = let y : k < x = less_is k x (b 0 0 (omega arith)) in let z : x < n = lt_tells x n v in
            omega arith
        either false v f = f (ap (λ t. t || list_any (λ q. nat_lt q n) xs) (sym v) ∙ e)

    step : (u : Bool) → nat_lt k n ≡ u → k < n
    step true v = lt_tells k n v
    step false v = later ks (ap (λ t. t || list_any (λ q. nat_lt q n) ks) (sym v) ∙ h) a

abbrev pub measure : Learnt → ℕ → ℕ → ℕ → ℕ
measure m c r next = lacking (is_found m c) (suc r) * (r + 1) + next

measure_falls : (rs0 rs : List Regex) (m m' : Learnt) (c r next next' : ℕ) (keys keys' keys'' : List ℕ)
    (o : Option ℕ) (added : Bool) → is_found m c r ≡ false → Deriving rs0 rs m c r next keys → next' ≤ r
    → Advanced m m' c next added keys keys' → IsTaken r next' keys' keys'' o
    → measure m' c r next' < measure m c r next
measure_falls rs0 rs m m' c r next next' keys keys' keys'' o true lacks v l a t =
    product_falls (lacking (is_found m' c) (suc r)) (lacking (is_found m c) (suc r)) (r + 1) next' next
    (lacking_falls (is_found m c) (is_found m' c) next (suc r) (λ i n. ap is_some (a.elsewhere i n))
    (v.next_lacks lacks) (a.added_is refl).0 (omega (arith, v.next_in))) (omega (arith, l))
measure_falls rs0 rs m m' c r next next' keys keys' keys'' (Some k) false lacks v l a t =
    let z : keys' ≡ k ∷ keys'' = t.removal in
    let f : k < next = least_falls k next keys'' (ap (list_any (λ x. nat_lt x next)) (sym z) ∙ a.waits refl) t.above in
    let e : measure m' c r next' ≡ measure m c r next' = ap (λ (x : Learnt). measure x c r next') (a.same refl) in
    omega (arith, e, f, t.next_is)
measure_falls rs0 rs m m' c r next next' keys [] keys'' None false lacks v l a t =
    let x : list_any (λ x. nat_lt x next) [] ≡ true = a.waits refl in absurd (cc)
measure_falls rs0 rs m m' c r next next' keys (k ∷ ks) keys'' None false lacks v l a t =
    let x : is_some {T = ℕ} None ≡ true = t.variant (omega arith) in absurd (cc)

pub turn_falls : (rs0 rs rs' : List Regex) (m m' : Learnt) (c r next next' : ℕ) (keys keys' keys'' : List ℕ)
    (o : Option ℕ) (added : Bool) → is_found m c r ≡ false → Deriving rs0 rs m c r next keys → Extends rs rs'
    → LearntIsRight rs' m' → length m'.1.0 ≡ length m.1.0 → Advanced m m' c next added keys keys'
    → IsTaken r next' keys' keys'' o → measure m' c r next' < measure m c r next
turn_falls rs0 rs rs' m m' c r next next' keys keys' keys'' o added lacks v e f l a t =
    measure_falls rs0 rs m m' c r next next' keys keys' keys'' o added lacks v
    (deriving_step rs0 rs rs' m m' c r next next' keys keys' keys'' o added lacks v e f l a t).next_in a t
