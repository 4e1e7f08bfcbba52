-- Terms that wait until it is known what they are, as one of them settles.
use Rattle.std.proofs.Common.{◌≡◌, ℕ, suc, ◌+◌, ◌*◌, ◌<◌, ◌≤◌, Bool, true, false, nat_eq, nat_lt, if◌then◌else◌, List, [], ◌∷◌, ◌++◌, length, map, take, get_or, refl, sym, ap, ap₂, subst, ◌∙◌, arith}
use Rattle.std.specs.Prelude.{◌||◌}
use Rattle.std.specs.List.{All, list_all, list_any}
use Rattle.std.proofs.lemmas.Bool.{and_from, or_left, or_right, false≢true, eq-eqb, lt-ltb, ltb-true}
use Rattle.std.proofs.lemmas.Bool.Decides.{nat_tests}
use Rattle.std.proofs.lemmas.List.{append_assoc, map-append, take_more}
use Rattle.std.proofs.lemmas.List.Folds.{list_any-append}
use Rattle.sb_facts.proofs.CallerLemmas.{all_append, all_weaker}
use Rattle.sb_meaning.specs.Terms.{Term, Terms, terms_of, with_term}
use Rattle.sb_term.specs.Numbered.{term_at, terms_at, AreDistinct}
use Rattle.sb_problem.specs.declared.normals.Known.{Known}
use Rattle.sb_problem.specs.declared.waiting.Waiting.{Waiting}
use Rattle.sb_problem.specs.Known.{KnowsMore, PartsPass, is_known}
use Rattle.sb_problem.specs.Shapes.{arguments_in}
use Rattle.sb_problem.specs.Waiting.{waits, enters, is_met, is_below, AreEntered, AreWaiting, size, sizes, weight, weights, Settles}
use Rattle.sb_problem.proofs.Chains.{some_size, less_than_whole}
use Rattle.sb_problem.proofs.Keeping.{all_last, parts_weaker}

-- Arguments, by their numbers.

head_same : (a b : Term) (xs ys : Terms) → with_term a xs ≡ with_term b ys → a ≡ b
head_same a b xs ys h = cc

tail_same : (a b : Term) (xs ys : Terms) → with_term a xs ≡ with_term b ys → xs ≡ ys
tail_same a b xs ys h = cc

-- equal terms have equal numbers
same_numbers : (ts : List Term) (n : ℕ) (is js : List ℕ) → AreDistinct ts → n ≤ length ts → All (λ i. i < n) is
    → All (λ j. j < n) js → terms_of (terms_at ts is) ≡ terms_of (terms_at ts js) → is ≡ js
same_numbers ts n [] [] once le p q e = refl
same_numbers ts n [] (j ∷ js) once le p q e = absurd (cc)
same_numbers ts n (i ∷ is) [] once le p q e = absurd (cc)
same_numbers ts n (i ∷ is) (j ∷ js) once le p q e =
    let one = p 0 0 (omega arith) in
    let other = q 0 0 (omega arith) in
    ap₂ (λ k ks. k ∷ ks)
    (once i j (omega (arith, one, le)) (omega (arith, other, le)) (head_same _ _ _ _ e))
    (same_numbers ts n is js once le (λ k d l. p (suc k) d (omega (arith, l)))
    (λ k d l. q (suc k) d (omega (arith, l))) (tail_same _ _ _ _ e))

-- those of one list of numbers are those of any
parts_pass : (ts : List Term) (test : ℕ → Bool) (i : ℕ) (is : List ℕ) → AreDistinct ts → i < length ts
    → terms_of (terms_at ts is) ≡ arguments_in (term_at ts i) → All (λ j. j < i) is → list_all test is ≡ true →
    PartsPass ts test i
parts_pass ts test i is once l are low h = λ js same below.
    subst (λ ks. list_all test ks ≡ true)
    (same_numbers ts i is js once (omega (arith, l)) low below (are ∙ sym same)) h

-- What waits.

alone : (b : Bool) → (b || false) ≡ true → b ≡ true
alone true h = refl
alone false h = h

or_gone : (a b n m : Bool) → (a ≡ true → m ≡ true) → (n ≡ true → m ≡ true) → (a || (b || (n || false))) ≡ true
    → (m || b) ≡ true
or_gone true b n m f g h = or_left m b (f refl)
or_gone false true n m f g h = or_right m true refl
or_gone false false true m f g h = or_left m false (g refl)
or_gone false false false m f g h = absurd (false≢true h)

or_more : (a b n d : Bool) → (a || (b || (n || false))) ≡ true → (a || (b || (n || d))) ≡ true
or_more true b n d h = refl
or_more false true n d h = refl
or_more false false true d h = refl
or_more false false false d h = absurd (false≢true h)

or_between : (a n b : Bool) → (a || b) ≡ true → (a || (n || b)) ≡ true
or_between true n b h = refl
or_between false true b h = refl
or_between false false b h = h

same : (i j : ℕ) → nat_eq i j ≡ true → i ≡ j
same i j h = grind (arith, nat_tests)

split_met : (ks : List Known) (ws vs : List Waiting) (i : ℕ) → is_met ks (ws ++ vs) i
    ≡ (is_known ks i || (list_any (λ w. nat_eq i w.id) ws || list_any (λ w. nat_eq i w.id) vs))
split_met ks ws vs i = ap (λ b. is_known ks i || b) (list_any-append (λ w. nat_eq i w.id) ws vs)

-- the last one is known now
met_gone : (old new : List Known) (ws : List Waiting) (w : Waiting)
    → ((i : ℕ) → is_known old i ≡ true → is_known new i ≡ true) → is_known new w.id ≡ true → (i : ℕ)
    → is_met old (ws ++ w ∷ []) i ≡ true → is_met new ws i ≡ true
met_gone old new ws w more there i h =
    or_gone (is_known old i) (list_any (λ v. nat_eq i v.id) ws) (nat_eq i w.id) (is_known new i) (more i)
    (λ e. ap (is_known new) (same i w.id e) ∙ there)
    (sym (split_met old ws (w ∷ []) i) ∙ h)

entered_gone : (ts : List Term) (old new : List Known) (ws : List Waiting) (w : Waiting)
    → ((i : ℕ) → is_known old i ≡ true → is_known new i ≡ true) → is_known new w.id ≡ true
    → AreEntered ts old (ws ++ w ∷ []) → AreEntered ts new ws
entered_gone ts old new [] w more there h = tt
entered_gone ts old new (v ∷ ws) w more there h = (
  λ e. parts_weaker ts (is_met old (ws ++ w ∷ [])) (is_met new ws) v.id (met_gone old new ws w more there) (h.0 e),
  entered_gone ts old new ws w more there h.1,
)

-- the last one waits for its arguments
met_entered : (ks : List Known) (ws vs : List Waiting) (w : Waiting) (i : ℕ) → is_met ks (ws ++ w ∷ []) i ≡ true
    → is_met ks (ws ++ enters w.id ∷ vs) i ≡ true
met_entered ks ws vs w i h =
    split_met ks ws (enters w.id ∷ vs) i
    ∙ or_more (is_known ks i) (list_any (λ v. nat_eq i v.id) ws) (nat_eq i w.id) (list_any (λ v. nat_eq i v.id) vs)
    (sym (split_met ks ws (w ∷ []) i) ∙ h)

none_entered : (ts : List Term) (ks : List Known) (is : List ℕ) → AreEntered ts ks (map waits is)
none_entered ts ks [] = tt
none_entered ts ks (i ∷ is) = (λ e. absurd (false≢true e), none_entered ts ks is)

all_met : (ks : List Known) (is : List ℕ) → list_all (is_met ks (map waits is)) is ≡ true
all_met ks [] = refl
all_met ks (i ∷ is) =
    and_from (is_met ks (map waits (i ∷ is)) i) (list_all (is_met ks (map waits (i ∷ is))) is)
    (or_right (is_known ks i) _ (or_left (nat_eq i i) _ (eq-eqb i i refl)))
    (all_weaker (is_met ks (map waits is)) (is_met ks (map waits (i ∷ is)))
    (λ j. or_between (is_known ks j) (nat_eq j i) (list_any (λ w. nat_eq j w.id) (map waits is))) is (all_met ks is))

entered_last : (ts : List Term) (ks : List Known) (ws : List Waiting) (w : Waiting) (is : List ℕ)
    → PartsPass ts (is_met ks (map waits is)) w.id → AreEntered ts ks (ws ++ w ∷ [])
    → AreEntered ts ks (ws ++ enters w.id ∷ map waits is)
entered_last ts ks [] w is parts h = (λ e. parts, none_entered ts ks is)
entered_last ts ks (v ∷ ws) w is parts h = (
  λ e. parts_weaker ts (is_met ks (ws ++ w ∷ [])) (is_met ks (ws ++ enters w.id ∷ map waits is)) v.id
      (met_entered ks ws (map waits is) w) (h.0 e),
  entered_last ts ks ws w is parts h.1,
)

waits_below : (n m : ℕ) (is : List ℕ) → m ≤ n → All (λ i. i < m) is → list_all (is_below n) (map waits is) ≡ true
waits_below n m [] le h = refl
waits_below n m (i ∷ is) le h =
    and_from (nat_lt i n) (list_all (is_below n) (map waits is)) (lt-ltb i n (omega (arith, le, h 0 0 (omega arith))))
    (waits_below n m is le (λ k d l. h (suc k) d (omega (arith, l))))

pub next_below : (ts : List Term) (ks : List Known) (ws : List Waiting) (w : Waiting) → AreWaiting ts ks (ws ++ w ∷ [])
    → w.id < length ks
next_below ts ks ws w a = ltb-true w.id (length ks) (all_last (is_below (length ks)) ws w a.below).1

-- What waits becomes lighter.

weight_some : (ts : List Term) (w : Waiting) → 0 < weight ts w
weight_some ts w = step w.entered (size (term_at ts w.id)) (some_size (term_at ts w.id))
  where
    step : (b : Bool) (n : ℕ) → 0 < n → 0 < (if b then 1 else 2 * n)
    step true n h = omega arith
    step false n h = omega (arith, h)

weights-append : (ts : List Term) (ws vs : List Waiting) → weights ts (ws ++ vs) ≡ weights ts ws + weights ts vs
weights-append ts [] vs = omega arith
weights-append ts (w ∷ ws) vs = omega (arith, weights-append ts ws vs)

less : (a b n : ℕ) → n ≡ a + (b + 0) → 0 < b → a < n
less a b n e p = omega arith

popped_lighter : (ts : List Term) (ws : List Waiting) (w : Waiting) → weights ts ws < weights ts (ws ++ w ∷ [])
popped_lighter ts ws w =
    less (weights ts ws) (weight ts w) (weights ts (ws ++ w ∷ [])) (weights-append ts ws (w ∷ [])) (weight_some ts w)

weights_waits : (ts : List Term) (is : List ℕ) → weights ts (map waits is) ≡ 2 * sizes (terms_of (terms_at ts is))
weights_waits ts [] = omega arith
weights_waits ts (i ∷ is) = omega (arith, weights_waits ts is)

falls : (new old a m b s big : ℕ) → new ≡ a + (1 + m) → m ≡ 2 * s → s < big → old ≡ a + (b + 0) → b ≡ 2 * big
    → new < old
falls new old a m b s big e f l g h = omega arith

entered_lighter : (ts : List Term) (ws : List Waiting) (w : Waiting) (is : List ℕ) → w.entered ≡ false
    → terms_of (terms_at ts is) ≡ arguments_in (term_at ts w.id)
    → weights ts (ws ++ enters w.id ∷ map waits is) < weights ts (ws ++ w ∷ [])
entered_lighter ts ws w is fresh are =
    falls (weights ts (ws ++ enters w.id ∷ map waits is)) (weights ts (ws ++ w ∷ [])) (weights ts ws)
    (weights ts (map waits is)) (weight ts w) (sizes (terms_of (terms_at ts is))) (size (term_at ts w.id))
    (weights-append ts ws (enters w.id ∷ map waits is))
    (weights_waits ts is)
    (subst (λ us. sizes us < size (term_at ts w.id)) (sym are) (less_than_whole (term_at ts w.id)))
    (weights-append ts ws (w ∷ []))
    (ap (λ (b : Bool). if b then 1 else 2 * size (term_at ts w.id)) fresh)

-- One that settles.

pub settles_known : (ts : List Term) (old new : List Known) (ws : List Waiting) (w : Waiting) → KnowsMore old new
    → is_known new w.id ≡ true → AreWaiting ts old (ws ++ w ∷ []) → Settles ts old new (ws ++ w ∷ []) ws
settles_known ts old new ws w more there a = record {
  waiting = record {
    below = subst (λ n. list_all (is_below n) ws ≡ true) (sym more.long)
        (all_last (is_below (length old)) ws w a.below).0;
    entered = entered_gone ts old new ws w more.kept there a.entered;
  };
  kept = met_gone old new ws w more.kept there;
  lighter = popped_lighter ts ws w;
}

pub settles_entered : (ts : List Term) (ks : List Known) (ws now : List Waiting) (w : Waiting) (is : List ℕ)
    → AreDistinct ts → length ks ≤ length ts → w.entered ≡ false →
    terms_of (terms_at ts is) ≡ arguments_in (term_at ts w.id) → All (λ j. j < w.id) is →
    now ≡ ws ++ enters w.id ∷ map waits is → AreWaiting ts ks (ws ++ w ∷ []) → Settles ts ks ks (ws ++ w ∷ []) now
settles_entered ts ks ws now w is once short fresh are low e a =
    subst (Settles ts ks ks (ws ++ w ∷ [])) (sym e) (record {
      waiting = record {
        below = all_append (is_below (length ks)) ws (enters w.id ∷ map waits is) members.0
            (and_from (nat_lt w.id (length ks)) (list_all (is_below (length ks)) (map waits is)) members.1
            (waits_below (length ks) w.id is (omega (arith, inside)) low));
        entered = entered_last ts ks ws w is
            (parts_pass ts (is_met ks (map waits is)) w.id is once (omega (arith, inside, short)) are low
            (all_met ks is)) a.entered;
      };
      kept = met_entered ks ws (map waits is) w;
      lighter = entered_lighter ts ws w is fresh are;
    })
  where
    members : (list_all (is_below (length ks)) ws ≡ true) × (nat_lt w.id (length ks) ≡ true)
    members = all_last (is_below (length ks)) ws w a.below

    inside : w.id < length ks
    inside = ltb-true w.id (length ks) members.1

-- each argument of the last one is known, where it was entered
pub parts_known : (ts : List Term) (ks : List Known) (ws : List Waiting) (w : Waiting) → w.entered ≡ true
    → AreWaiting ts ks (ws ++ w ∷ []) → PartsPass ts (is_known ks) w.id
parts_known ts ks ws w e a = by_list ws a.entered
  where
    by_list : (ws : List Waiting) → AreEntered ts ks (ws ++ w ∷ []) → PartsPass ts (is_known ks) w.id
    by_list [] h = parts_weaker ts (is_met ks []) (is_known ks) w.id (λ i. alone (is_known ks i)) (h.0 e)
    by_list (v ∷ ws) h = by_list ws h.1

-- The first one, and the end.

pub one_waits : (ts : List Term) (ks : List Known) (id : ℕ) (now : List Waiting) → id < length ks
    → now ≡ waits id ∷ [] → AreWaiting ts ks now
one_waits ts ks id now l e = subst (AreWaiting ts ks) (sym e) (record {
  below = and_from (nat_lt id (length ks)) true (lt-ltb id (length ks) l) refl;
  entered = (λ f. absurd (false≢true f), tt);
})

pub one_met : (ks : List Known) (id : ℕ) (now : List Waiting) → now ≡ waits id ∷ [] → is_met ks now id ≡ true
one_met ks id now e =
    ap (λ ws. is_met ks ws id) e
    ∙ or_right (is_known ks id) _ (or_left (nat_eq id id) false (eq-eqb id id refl))

pub all_settled : (ks : List Known) (id : ℕ) (ws : List Waiting) → length ws ≡ 0 → is_met ks ws id ≡ true
    → is_known ks id ≡ true
all_settled ks id [] h m = alone (is_known ks id) m
all_settled ks id (w ∷ ws) h m = absurd (omega (arith, h))

-- Arguments that are put behind those that wait.

pub put_more : (olds before now : List Waiting) (id : ℕ) (is : List ℕ) (k i : ℕ) (w : Waiting)
    → before ≡ olds ++ enters id ∷ map waits (take k is) → k < length is → i ≡ get_or is k i → w ≡ waits i
    → now ≡ before ++ w ∷ [] → now ≡ olds ++ enters id ∷ map waits (take (k + 1) is)
put_more olds before now id is k i w b l there same n =
    n ∙ ap₂ (λ vs v. vs ++ v ∷ []) b same
    ∙ append_assoc olds (enters id ∷ map waits (take k is)) (waits i ∷ [])
    ∙ ap (λ vs. olds ++ enters id ∷ vs)
    (sym (map-append waits (take k is) (i ∷ []))
    ∙ ap (map waits) (sym (take_more is k i l ∙ ap (λ y. take k is ++ y ∷ []) (sym there))))
