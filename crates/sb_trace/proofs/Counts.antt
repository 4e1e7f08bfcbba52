-- Regexes that are expanded one after the other, and how many of them there are.
use Rattle.std.proofs.Common.{◌≡◌, ◌≢◌, ◌↔◌, ℕ, ◌+◌, ◌-◌, ◌<◌, ◌≤◌, nat_eq, Bool, true, false, cond, not, ◌||◌, List, [], ◌∷◌, ◌++◌, length, get_or, take, drop, refl, sym, ap, subst, ◌∙◌, arith}
use Rattle.std.specs.List.{count_by, IsDistinct, AllPairs}
use Rattle.std.proofs.lemmas.Bool.Decides.{Decides-eqb}
use Rattle.std.proofs.lemmas.List.{get_or-take, get_or_default, length-take-le, take_more, take_all, take-append-drop, take-append-le}
use Rattle.std.proofs.lemmas.List.Folds.{list_any-append}
use Rattle.std.proofs.lemmas.List.Sums.{count_by_more_no, count_by_more_yes, sum_by-take-le}
use Rattle.std.proofs.lemmas.Map.Made.{AllPairs-from_IsDistinct}
use Rattle.sb_lit.specs.Budgets.{Spending}
use Rattle.sb_trace.specs.declared.trace.Expand.{Expand}
use Rattle.sb_trace.specs.declared.trace.Expand.TheVariants as expand
use Rattle.sb_trace.specs.Tracking.{Traced, is_expanded_in, IsExpandedIn, is_put, Spends}
use Rattle.sb_trace.specs.Reaching.{is_member, is_unexpanded}
use Rattle.sb_trace.specs.Closing.{GrewTo, HasSpent}
use Rattle.sb_trace.proofs.Positions.{nat_same}
use Rattle.sb_trace.proofs.Numbering.{expanded_told, expanded_shown}
use Rattle.sb_trace.proofs.Closures.{place_of}

-- One more is counted.

pub count_more : (p : ℕ → Bool) (xs : List ℕ) (i : ℕ) → i < length xs
    → count_by p (take (i + 1) xs) ≡ count_by p (take i xs) + cond (p (get_or xs i 0)) 1 0
count_more p xs i l = step (p (get_or xs i 0)) refl
  where
    step : (b : Bool) → p (get_or xs i 0) ≡ b → count_by p (take (i + 1) xs) ≡ count_by p (take i xs) + cond b 1 0
    step true is = count_by_more_yes p xs i 0 l is
    step false is = let e = count_by_more_no p xs i 0 l is in omega (arith, e)

-- the same where the list grew behind the place
pub count_more_in : (p : ℕ → Bool) (old new : List ℕ) (i lacking : ℕ) → GrewTo old new → i < length old
    → lacking ≡ count_by p (take i old)
    → lacking + cond (p (get_or old i 0)) 1 0 ≡ count_by p (take (i + 1) new)
count_more_in p old new i lacking grew l is =
    ap (λ n. n + cond (p (get_or old i 0)) 1 0) is
    ∙ sym (count_more p old i l)
    ∙ ap (count_by p) (sym (ap (take (i + 1)) grew.1 ∙ take-append-le (i + 1) old grew.0 (omega (arith, l))))

counted_front : (p : ℕ → Bool) (xs : List ℕ) (i : ℕ) → count_by p (take i xs) ≤ count_by p xs
counted_front p xs i = sum_by-take-le (λ x. cond (p x) 1 0) xs i

-- one more than the most
pub counted_past : (p : ℕ → Bool) (xs : List ℕ) (i most lacking : ℕ) → i < length xs
    → lacking ≡ count_by p (take i xs) → lacking ≡ most → p (get_or xs i 0) ≡ true → most < count_by p xs
counted_past p xs i most lacking l is same here =
    let more = count_by_more_yes p xs i 0 l here in
    let front = counted_front p xs (i + 1) in
    omega (arith, more, front, is, same)

-- Members by place.

pub fresh : (xs : List ℕ) (i : ℕ) → IsDistinct nat_eq xs → i < length xs
    → is_member (take i xs) (get_or xs i 0) ≡ false
fresh xs i once l = step (is_member (take i xs) (get_or xs i 0)) refl
  where
    step : (b : Bool) → is_member (take i xs) (get_or xs i 0) ≡ b → is_member (take i xs) (get_or xs i 0) ≡ false
    step false is = is
    step true is =
        let p = place_of (take i xs) (get_or xs i 0) is in
        let few = length-take-le i xs (omega (arith, l)) in
        let low = p.1 in
        let before : p.0 < i = omega (arith, low, few) in
        let apart : AllPairs (λ x y. x ≢ y) xs = AllPairs-from_IsDistinct Decides-eqb xs once in
        absurd (apart p.0 i 0 before l (sym (get_or-take i xs p.0 0 before) ∙ p.2))

member_more : (xs : List ℕ) (i : ℕ) (x n : ℕ) → i < length xs → x ≡ get_or xs i x
    → is_member (take (i + 1) xs) n ≡ (is_member (take i xs) n || (nat_eq n x || false))
member_more xs i x n l is =
    ap (λ ys. is_member ys n) (take_more xs i x l ∙ ap (λ r. take i xs ++ r ∷ []) (sym is))
    ∙ list_any-append (nat_eq n) (take i xs) (x ∷ [])

pub member_front : (xs : List ℕ) (i n : ℕ) (b : Bool) → (is_member (take i xs) n || b) ≡ true
    → (is_member xs n || b) ≡ true
member_front xs i n b h =
    ap (λ ys. is_member ys n || b) (sym (take-append-drop i xs))
    ∙ ap (λ c. c || b) (list_any-append (nat_eq n) (take i xs) (drop i xs))
    ∙ either (is_member (take i xs) n) (is_member (drop i xs) n) b h
  where
    either : (f g b : Bool) → (f || b) ≡ true → ((f || g) || b) ≡ true
    either true g b h = refl
    either false true b h = refl
    either false false b h = h

-- One more is expanded.

module _ (xs : List ℕ) (i x : ℕ) (l : i < length xs) (is : x ≡ get_or xs i x) (once : IsDistinct nat_eq xs)
    (t u v : Traced) (before : (n : ℕ) → is_expanded_in u n ≡ (is_member (take i xs) n || is_expanded_in t n))
  where
    at_zero : get_or xs i 0 ≡ x
    at_zero = sym (get_or_default xs i x 0 l) ∙ sym is

    not_there : is_member (take i xs) x ≡ false
    not_there = subst (λ n. is_member (take i xs) n ≡ false) at_zero (fresh xs i once l)

    here : is_expanded_in u x ≡ is_expanded_in t x
    here = before x ∙ ap (λ b. b || is_expanded_in t x) not_there

    pub expanded_next : (e : Expand) → e ≢ expand.Spent → (e ≡ expand.Already) ↔ IsExpandedIn u x
        → ((n : ℕ) → is_expanded_in v n ≡ (is_put e x n || is_expanded_in u n)) → (n : ℕ)
        → is_expanded_in v n ≡ (is_member (take (i + 1) xs) n || is_expanded_in t n)
    expanded_next e not_spent already only n =
        only n
        ∙ by e not_spent already
        ∙ ap (λ b. b || is_expanded_in t n) (sym (member_more xs i x n l is))
      where
        turn : (e m o d : Bool) → d ≡ (m || o) → (e || d) ≡ ((m || (e || false)) || o)
        turn true true o d same = refl
        turn true false o d same = refl
        turn false true o d same = same
        turn false false o d same = same

        stays : (e m o d : Bool) → (e ≡ true → d ≡ true) → d ≡ (m || o) → d ≡ ((m || (e || false)) || o)
        stays true true o d marked same = same
        stays true false o d marked same = marked refl
        stays false true o d marked same = same
        stays false false o d marked same = same

        by : (e : Expand) → e ≢ expand.Spent → (e ≡ expand.Already) ↔ IsExpandedIn u x
            → (is_put e x n || is_expanded_in u n)
            ≡ ((is_member (take i xs) n || (nat_eq n x || false)) || is_expanded_in t n)
        by expand.Expanded not_spent already =
            turn (nat_eq n x) (is_member (take i xs) n) (is_expanded_in t n) (is_expanded_in u n) (before n)
        by expand.Already not_spent already =
            stays (nat_eq n x) (is_member (take i xs) n) (is_expanded_in t n) (is_expanded_in u n)
            (λ same. subst (λ m. is_expanded_in u m ≡ true) (sym (nat_same n x same))
            (expanded_shown u x (already.0 refl))) (before n)
        by expand.Spent not_spent already = absurd (not_spent refl)

    pub spends_next : (e : Expand) → e ≢ expand.Spent → (e ≡ expand.Already) ↔ IsExpandedIn u x
        → (a b c : Spending) → HasSpent a b (count_by (is_unexpanded t) (take i xs)) → Spends e b c
        → HasSpent a c (count_by (is_unexpanded t) (take (i + 1) xs))
    spends_next e not_spent already a b c before spends = by e not_spent already spends
      where
        more : count_by (is_unexpanded t) (take (i + 1) xs)
            ≡ count_by (is_unexpanded t) (take i xs) + cond (is_unexpanded t x) 1 0
        more =
            count_more (is_unexpanded t) xs i l
            ∙ ap (λ n. count_by (is_unexpanded t) (take i xs) + cond (is_unexpanded t n) 1 0) at_zero

        already_put : expand.Expanded ≡ expand.Already → ⊥
        already_put h = Prim.cc (h)

        none_from : (b : Bool) → (b ≡ true → b ≡ false) → b ≡ false
        none_from true h = h refl
        none_from false h = refl

        by : (e : Expand) → e ≢ expand.Spent → (e ≡ expand.Already) ↔ IsExpandedIn u x → Spends e b c
            → HasSpent a c (count_by (is_unexpanded t) (take (i + 1) xs))
        by expand.Expanded not_spent already spends =
            let new : is_expanded_in u x ≡ false =
            none_from (is_expanded_in u x) (λ h. absurd (already_put (already.1 (expanded_told u x h)))) in
            let one : count_by (is_unexpanded t) (take (i + 1) xs) ≡ count_by (is_unexpanded t) (take i xs) + 1 =
            more ∙ ap (λ d. count_by (is_unexpanded t) (take i xs) + cond (not d) 1 0) (sym here ∙ new) in
            let spent : c.spent ≡ b.spent + 1 = ap (λ (s : Spending). s.spent) spends.1 in
            let limit : c.limit ≡ b.limit = ap (λ (s : Spending). s.limit) spends.1 in
            let sum = before.spent in
            let room = spends.0 in
            record {
              spent = omega (arith, one, spent, sum);
              limit = limit ∙ before.limit;
              room = λ some. omega (arith, room, spent, limit);
            }
        by expand.Already not_spent already spends =
            let old : is_expanded_in t x ≡ true = sym here ∙ expanded_shown u x (already.0 refl) in
            let none : count_by (is_unexpanded t) (take (i + 1) xs) ≡ count_by (is_unexpanded t) (take i xs) + 0 =
            more ∙ ap (λ d. count_by (is_unexpanded t) (take i xs) + cond (not d) 1 0) old in
            let spent : c.spent ≡ b.spent = ap (λ (s : Spending). s.spent) spends in
            let limit : c.limit ≡ b.limit = ap (λ (s : Spending). s.limit) spends in
            let sum = before.spent in
            record {
              spent = omega (arith, none, spent, sum);
              limit = limit ∙ before.limit;
              room = λ some.
                  let some_before : 0 < count_by (is_unexpanded t) (take i xs) = omega (arith, some, none) in
                  let room = before.room some_before in
                  omega (arith, room, spent, limit);
            }
        by expand.Spent not_spent already spends = absurd (not_spent refl)

-- All are expanded at a place behind the last one.

pub expanded_all : (xs : List ℕ) (i : ℕ) (t u : Traced) → length xs ≤ i
    → ((n : ℕ) → is_expanded_in u n ≡ (is_member (take i xs) n || is_expanded_in t n)) → (n : ℕ)
    → is_expanded_in u n ≡ (is_member xs n || is_expanded_in t n)
expanded_all xs i t u l before n =
    before n ∙ ap (λ (ys : List ℕ). is_member ys n || is_expanded_in t n) (take_all i xs l)

pub spent_all : (p : ℕ → Bool) (xs : List ℕ) (i : ℕ) (a b : Spending) → length xs ≤ i
    → HasSpent a b (count_by p (take i xs)) → HasSpent a b (count_by p xs)
spent_all p xs i a b l h = subst (λ (ys : List ℕ). HasSpent a b (count_by p ys)) (take_all i xs l) h

-- Where the steps that were left are too few, they are spent.

pub spent_out : (done : Bool) (a b : Spending) (most count : ℕ) → (done ≡ false → b.spent ≡ b.limit)
    → (done ≡ true → HasSpent a b count) → most ≡ a.limit - a.spent → most < count → b.spent ≡ b.limit
spent_out false a b most count out all is many = out refl
spent_out true a b most count out all is many =
    let h = all refl in
    let sum = h.spent in
    let limit = h.limit in
    let room = h.room (omega (arith, many)) in
    absurd (omega (arith, sum, limit, room, is, many))
