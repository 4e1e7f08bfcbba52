-- What is known of live assertions, as more of it becomes known, and as the table and the assertions change.
use Rattle.std.proofs.Common.{◌≡◌, ℕ, zero, suc, ◌+◌, ◌<◌, ◌≤◌, true, List, [], ◌∷◌, ◌++◌, length, length-append, get_or, map, take, refl, sym, ap, subst, ◌∙◌, arith, Option, Some, None, IfSome}
use Rattle.std.specs.List.{All, list_all}
use Rattle.std.proofs.lemmas.Bool.{and_parts, and_from}
use Rattle.std.proofs.lemmas.List.{take_all, take-append-le}
use Rattle.std.proofs.lemmas.List.Elements.{All-take, All-head, All-tail, All-nil}
use Rattle.sb_meaning.specs.Terms.{Term}
use Rattle.sb_script.specs.State.{Assertion, asserted, a_mark}
use Rattle.sb_term.specs.declared.assertion.Assertion as code
use Rattle.sb_term.specs.Numbered.{term_at, Extends}
use Rattle.sb_term.proofs.CallerLemmas.{at_kept, long_kept}
use Rattle.sb_fragment.specs.declared.rules.Reason.{Reason}
use Rattle.sb_fragment.specs.Inside.{AreInside}
use Rattle.sb_script.specs.Fragment.{is_decided}
use Rattle.sb_fragment.specs.Rules.{assertion_in, HasNumberBelow, IsBrokenBy}
use Rattle.sb_fragment.proofs.RuleFacts.{one_more}

pub number_at : (n : ℕ) (live : List code.Assertion) (k : ℕ) (a : code.Assertion) → All (HasNumberBelow n) live
    → k < length live → a ≡ get_or live k a → HasNumberBelow n a
number_at n live k a h low is = subst (HasNumberBelow n) (sym is) (h k a low)

-- Nothing is known, one more is, and all are.

pub inside_none : (count : ℕ) (ts : List Term) (live : List code.Assertion) → count ≡ 0 → AreInside count ts live
inside_none count ts live none = record {
  front = omega (arith, none);
  numbers = subst (λ k. All (HasNumberBelow (length ts)) (take k live)) (sym none)
      (All-nil (HasNumberBelow (length ts)));
  decided = subst (λ k. list_all is_decided (map (assertion_in ts) (take k live)) ≡ true) (sym none) refl;
}

pub inside_more : (k : ℕ) (ts : List Term) (live : List code.Assertion) (a : code.Assertion) (found : Option Reason)
    → AreInside k ts live → k < length live → All (HasNumberBelow (length ts)) live → a ≡ get_or live k a
    → found ≡ None → IsBrokenBy (assertion_in ts a) found → AreInside (k + 1) ts live
inside_more k ts live a found before low numbers is none h = record {
  front = omega (arith, low);
  numbers = All-take (HasNumberBelow (length ts)) (k + 1) live numbers;
  decided = one_more ts live k a found low is none h before.decided;
}

pub all_inside : (k : ℕ) (ts : List Term) (live : List code.Assertion) → AreInside k ts live → length live ≤ k
    → list_all is_decided (map (assertion_in ts) live) ≡ true
all_inside k ts live h long =
    ap (λ xs. list_all is_decided (map (assertion_in ts) xs)) (sym (take_all k live long)) ∙ h.decided

pub inside_all : (k : ℕ) (ts : List Term) (live : List code.Assertion) → k ≡ length live
    → All (HasNumberBelow (length ts)) live → list_all is_decided (map (assertion_in ts) live) ≡ true
    → AreInside k ts live
inside_all k ts live is numbers decided =
    let whole = take_all k live (omega (arith, is)) in
    record {
      front = omega (arith, is);
      numbers = subst (All (HasNumberBelow (length ts))) (sym whole) numbers;
      decided = ap (λ xs. list_all is_decided (map (assertion_in ts) xs)) whole ∙ decided;
    }

-- Terms keep their numbers.

number_more : (m n : ℕ) → m ≤ n → (o : Option ℕ) → IfSome o (λ id. id < m) → IfSome o (λ id. id < n)
number_more m n l None h = tt
number_more m n l (Some id) h = omega (arith, l, h)

pub numbers_grown : (old new : List Term) (live : List code.Assertion) → Extends old new
    → All (HasNumberBelow (length old)) live → All (HasNumberBelow (length new)) live
numbers_grown old new live e h = λ i d l.
    number_more (length old) (length new) (long_kept old new e) (get_or live i d).term (h i d l)

pub assertions_kept : (old new : List Term) (live : List code.Assertion) → Extends old new
    → All (HasNumberBelow (length old)) live → map (assertion_in new) live ≡ map (assertion_in old) live
assertions_kept old new [] e h = refl
assertions_kept old new (a ∷ live) e h =
    let rest = assertions_kept old new live e (All-tail (HasNumberBelow (length old)) a live h) in
    rw rest (ap (λ x. x ∷ map (assertion_in old) live)
    (one a.term (All-head (HasNumberBelow (length old)) a live h)))
  where
    one : (o : Option ℕ) → IfSome o (λ id. id < length old)
        → (elim o as (λ _. Assertion) [ Some id ↦ asserted (term_at new id) | None ↦ a_mark ])
        ≡ (elim o as (λ _. Assertion) [ Some id ↦ asserted (term_at old id) | None ↦ a_mark ])
    one None l = refl
    one (Some id) l = ap asserted (at_kept old new id e l)

-- There are more assertions, or fewer.

pub inside_stays : (k : ℕ) (old new : List Term) (was live more : List code.Assertion) → Extends old new
    → live ≡ was ++ more → AreInside k old was → AreInside k new live
inside_stays k old new was live more e is h = record {
  front = omega (arith, h.front, ap length is, length-append was more);
  numbers = subst (All (HasNumberBelow (length new))) (sym front) (numbers_grown old new (take k was) e h.numbers);
  decided = ap (λ xs. list_all is_decided (map (assertion_in new) xs)) front
      ∙ ap (list_all is_decided) (assertions_kept old new (take k was) e h.numbers) ∙ h.decided;
}
  where
    front : take k live ≡ take k was
    front = ap (take k) is ∙ take-append-le k was more h.front

pub front_of_front : (xs : List code.Assertion) (n k : ℕ) → k ≤ n → take k (take n xs) ≡ take k xs
front_of_front xs n zero l = refl
front_of_front xs zero (suc k) l = absurd (omega arith)
front_of_front [] (suc n) (suc k) l = refl
front_of_front (x ∷ xs) (suc n) (suc k) l = ap (λ ys. x ∷ ys) (front_of_front xs n k (omega arith))

front_decided : (ts : List Term) (xs : List code.Assertion) (k : ℕ)
    → list_all is_decided (map (assertion_in ts) xs) ≡ true
    → list_all is_decided (map (assertion_in ts) (take k xs)) ≡ true
front_decided ts xs zero h = refl
front_decided ts [] (suc k) h = refl
front_decided ts (x ∷ xs) (suc k) h =
    let parts = and_parts (is_decided (assertion_in ts x)) (list_all is_decided (map (assertion_in ts) xs)) h in
    and_from (is_decided (assertion_in ts x)) (list_all is_decided (map (assertion_in ts) (take k xs))) parts.0
    (front_decided ts xs k parts.1)

pub inside_left : (k left : ℕ) (old new : List Term) (was live gone : List code.Assertion) → Extends old new
    → was ≡ live ++ gone → left ≤ k → left ≤ length live → AreInside k old was → AreInside left new live
inside_left k left old new was live gone e is few there h = record {
  front = there;
  numbers = subst (All (HasNumberBelow (length new))) (sym front)
      (All-take (HasNumberBelow (length new)) left (take k was) (numbers_grown old new (take k was) e h.numbers));
  decided = ap (λ xs. list_all is_decided (map (assertion_in new) xs)) front
      ∙ front_decided new (take k was) left
      (ap (list_all is_decided) (assertions_kept old new (take k was) e h.numbers) ∙ h.decided);
}
  where
    front : take left live ≡ take left (take k was)
    front = sym (ap (take left) is ∙ take-append-le left live gone there) ∙ sym (front_of_front was k left few)
