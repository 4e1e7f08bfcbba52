-- Numbers in ascending order, each once, have the same regexes.
use Rattle.std.proofs.Common.{◌≡◌, ℕ, suc, ◌<◌, Bool, true, false, ◌||◌, cond, nat_eq, List, [], ◌∷◌, length, drop, refl, sym, ap, ◌∙◌, arith}
use Rattle.std.specs.declared.cmp.Ordering.{Ordering}
use Rattle.std.specs.declared.cmp.Ordering.TheVariants.{Less, Equal, Greater}
use Rattle.std.specs.Ordering.{is_eq}
use Rattle.std.specs.List.{dedup, dedup_from, refill}
use Rattle.std.specs.List.Sorted.{IsPermutation}
use Rattle.std.proofs.Math.Bool.{or_self_left}
use Rattle.std.proofs.lemmas.Bool.{false≢true}
use Rattle.std.proofs.lemmas.List.{take-append-le, take_all}
use Rattle.std.proofs.lemmas.List.Filters.{All-dedup}
use Rattle.std.proofs.lemmas.List.Sorted.{IsPermutation-map, list_any-IsPermutation, All-permutation}
use Rattle.sb_lang.specs.Regex.{Regex}
use Rattle.sb_lang.specs.Order.{regex_cmp, regex_eq}
use Rattle.sb_lang.specs.OrderLaws.{OrderTellsApart}
use Rattle.sb_lang.specs.SortedLaws.{is_member}
use Rattle.sb_lang.specs.FoldLaws.{SameMembers}
use Rattle.sb_regex.specs.Numbered.{regex_at, regexes_at, AllNumbers, AreDistinct}
use Rattle.sb_regex.proofs.NodeEq.{nat_same, same_nat}

-- The tests of numbers and of regexes agree.

equal_order : (o : Ordering) → is_eq o ≡ true → o ≡ Equal
equal_order Less h = absurd (false≢true h)
equal_order Equal h = refl
equal_order Greater h = absurd (false≢true h)

pub regex_same : OrderTellsApart → (a b : Regex) → regex_eq a b ≡ true → a ≡ b
regex_same tells a b h = (tells a b).0 (equal_order (regex_cmp a b) h)

pub same_regex : OrderTellsApart → (a b : Regex) → a ≡ b → regex_eq a b ≡ true
same_regex tells a b e = ap is_eq ((tells a b).1 e)

pub tests_agree : OrderTellsApart → (rs : List Regex) → AreDistinct rs → (x y : ℕ) → x < length rs → y < length rs
    → nat_eq x y ≡ regex_eq (regex_at rs x) (regex_at rs y)
tests_agree tells rs distinct x y l m = step (nat_eq x y) (regex_eq (regex_at rs x) (regex_at rs y)) refl refl
  where
    step : (s t : Bool) → nat_eq x y ≡ s → regex_eq (regex_at rs x) (regex_at rs y) ≡ t
        → nat_eq x y ≡ regex_eq (regex_at rs x) (regex_at rs y)
    step true t p q = p ∙ sym (same_regex tells _ _ (ap (regex_at rs) (nat_same x y p)))
    step false true p q = absurd (false≢true (sym p ∙ same_nat x y (distinct x y l m (regex_same tells _ _ q))))
    step false false p q = p ∙ sym q

dedup_from_regexes : OrderTellsApart → (rs : List Regex) → AreDistinct rs → (k : ℕ) (is : List ℕ) → k < length rs
    → AllNumbers rs is → regexes_at rs (dedup_from nat_eq k is) ≡ dedup_from regex_eq (regex_at rs k) (regexes_at rs is)
dedup_from_regexes tells rs distinct k [] l h = refl
dedup_from_regexes tells rs distinct k (i ∷ is) l h =
    let m : i < length rs = h 0 0 (omega arith) in
    let rest : AllNumbers rs is = λ j d n. h (suc j) d (omega (arith, n)) in
    step (dedup_from_regexes tells rs distinct k is l rest) (dedup_from_regexes tells rs distinct i is m rest)
    (nat_eq i k)
    ∙ ap (λ b. cond b (dedup_from regex_eq (regex_at rs k) (regexes_at rs is))
    (regex_at rs k ∷ dedup_from regex_eq (regex_at rs i) (regexes_at rs is)))
    (tests_agree tells rs distinct i k m l)
  where
    step : regexes_at rs (dedup_from nat_eq k is) ≡ dedup_from regex_eq (regex_at rs k) (regexes_at rs is)
        → regexes_at rs (dedup_from nat_eq i is) ≡ dedup_from regex_eq (regex_at rs i) (regexes_at rs is) → (b : Bool) →
        regexes_at rs (cond b (dedup_from nat_eq k is) (k ∷ dedup_from nat_eq i is))
        ≡ cond b (dedup_from regex_eq (regex_at rs k) (regexes_at rs is))
        (regex_at rs k ∷ dedup_from regex_eq (regex_at rs i) (regexes_at rs is))
    step p q true = p
    step p q false = ap (λ xs. regex_at rs k ∷ xs) q

pub dedup_regexes : OrderTellsApart → (rs : List Regex) → AreDistinct rs → (is : List ℕ) → AllNumbers rs is
    → regexes_at rs (dedup nat_eq is) ≡ dedup regex_eq (regexes_at rs is)
dedup_regexes tells rs distinct [] h = refl
dedup_regexes tells rs distinct (i ∷ is) h =
    dedup_from_regexes tells rs distinct i is (h 0 0 (omega arith)) (λ j d n. h (suc j) d (omega (arith, n)))

-- The same members.

member_from : OrderTellsApart → (r k : Regex) (xs : List Regex)
    → is_member r (dedup_from regex_eq k xs) ≡ (regex_eq r k || is_member r xs)
member_from tells r k [] = refl
member_from tells r k (x ∷ xs) = step (member_from tells r k xs) (member_from tells r x xs) (regex_eq x k) refl
  where
    step : is_member r (dedup_from regex_eq k xs) ≡ (regex_eq r k || is_member r xs)
        → is_member r (dedup_from regex_eq x xs) ≡ (regex_eq r x || is_member r xs) → (b : Bool) → regex_eq x k ≡ b →
        is_member r (cond b (dedup_from regex_eq k xs) (k ∷ dedup_from regex_eq x xs))
        ≡ (regex_eq r k || (regex_eq r x || is_member r xs))
    step p q true is =
        p ∙ sym (or_self_left (regex_eq r k) (is_member r xs))
        ∙ ap (λ y. regex_eq r k || (regex_eq r y || is_member r xs)) (sym (regex_same tells x k is))
    step p q false is = ap (λ b. regex_eq r k || b) q

pub member_dedup : OrderTellsApart → (r : Regex) (xs : List Regex) → is_member r (dedup regex_eq xs) ≡ is_member r xs
member_dedup tells r [] = refl
member_dedup tells r (x ∷ xs) = member_from tells r x xs

pub once_members : OrderTellsApart → (rs : List Regex) → AreDistinct rs → (is js ks : List ℕ) → AllNumbers rs is
    → IsPermutation is js → ks ≡ dedup nat_eq js → SameMembers (regexes_at rs ks) (regexes_at rs is)
once_members tells rs distinct is js ks known moved e r =
    ap (λ xs. is_member r xs)
    (ap (regexes_at rs) e ∙ dedup_regexes tells rs distinct js (All-permutation (λ i. i < length rs) is js moved known))
    ∙ member_dedup tells r (regexes_at rs js)
    ∙ sym (list_any-IsPermutation (regex_eq r) (regexes_at rs is) (regexes_at rs js)
    (IsPermutation-map (regex_at rs) is js moved))

pub once_numbers : (rs : List Regex) (is js ks : List ℕ) → AllNumbers rs is → IsPermutation is js
    → ks ≡ dedup nat_eq js → AllNumbers rs ks
once_numbers rs is js ks known moved e =
    rw e (All-dedup nat_eq (λ i. i < length rs) js (All-permutation (λ i. i < length rs) is js moved known))

-- a whole slice that is written back
pub refill_whole : (n : ℕ) (xs ws : List ℕ) → length ws ≡ n → refill n xs ws ≡ ws
refill_whole n xs ws e =
    take-append-le n ws (drop (length ws) xs) (omega (arith, e)) ∙ take_all n ws (omega (arith, e))
