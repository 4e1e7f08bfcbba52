-- The numbers that regexes have in a proof, by the order in which they stand there.
use Rattle.std.proofs.Common.{◌≡◌, ℕ, ◌+◌, ◌<◌, ◌≤◌, nat_eq, Bool, true, false, cond, ◌||◌, List, [], ◌∷◌, ◌++◌, length, get_or, map, position, Option, Some, None, is_some, refl, sym, ap, ◌∙◌, arith}
use Rattle.std.specs.List.{position_from}
use Rattle.std.proofs.lemmas.Bool.{true≢false}
use Rattle.std.proofs.lemmas.List.{get_or_default}
use Rattle.std.proofs.lemmas.Option.{get_or_from_slice_get}
use Rattle.sb_graph.specs.Findings.{is_marked}
use Rattle.sb_trace.specs.declared.trace.Expand.{Expand}
use Rattle.sb_trace.specs.declared.trace.Expand.TheVariants as expand
use Rattle.sb_trace.specs.Tracking.{Traced, number_in, is_dead_in, is_expanded_in, is_put, IsExpandedIn}
use Rattle.sb_trace.proofs.Positions.{nat_same, same_nat, number-there, number-stays, position-found, number_from_index}

pub eq_itself : (n : ℕ) → nat_eq n n ≡ true
eq_itself n = same_nat n n refl

pub number_of_at : (order : List ℕ) (n k : ℕ) → number_in order n ≡ Some k → get_or order k 0 ≡ n
number_of_at order n k h = get_or_from_slice_get order k n 0 (number-there order n k h)

pub one_number : (order : List ℕ) (m n k : ℕ) → number_in order m ≡ Some k → number_in order n ≡ Some k → m ≡ n
one_number order m n k g h = sym (number_of_at order m k g) ∙ number_of_at order n k h

-- Numbers stay where more regexes come behind.

-- one that had no number gets one behind the others
pub position-later : (order more : List ℕ) (n i k : ℕ) → position_from (nat_eq n) i order ≡ None
    → position_from (nat_eq n) i (order ++ more) ≡ Some k → i + length order ≤ k
position-later [] more n i k none h = let p = position-found more n i k h in omega (arith, p.is)
position-later (x ∷ order) more n i k none h = step (nat_eq n x) none h (position-later order more n (i + 1) k)
  where
    step : (b : Bool) → cond b (Some i) (position_from (nat_eq n) (i + 1) order) ≡ None
        → cond b (Some i) (position_from (nat_eq n) (i + 1) (order ++ more)) ≡ Some k
        → (position_from (nat_eq n) (i + 1) order ≡ None
        → position_from (nat_eq n) (i + 1) (order ++ more) ≡ Some k → i + 1 + length order ≤ k)
        → i + length (x ∷ order) ≤ k
    step true none h rest = absurd (true≢false (ap is_some none))
    step false none h rest = let l = rest none h in omega (arith, l)

pub number_later : (order more : List ℕ) (n k : ℕ) → number_in order n ≡ None → number_in (order ++ more) n ≡ Some k
    → length order ≤ k
number_later order more n k none h = let l = position-later order more n 0 k none h in omega (arith, l)

pub numbers_stay : (order more ns ks : List ℕ) → map (number_in order) ns ≡ map Some ks
    → map (number_in (order ++ more)) ns ≡ map Some ks
numbers_stay order more [] ks h = h
numbers_stay order more (n ∷ ns) [] h = absurd (Prim.cc (h))
numbers_stay order more (n ∷ ns) (k ∷ ks) h =
    let first : number_in order n ≡ Some k = Prim.cc (h) in
    let rest : map (number_in order) ns ≡ map Some ks = Prim.cc (h) in
    let one = number-stays order more n k first in
    let others = numbers_stay order more ns ks rest in
    cc

-- A look-up by hash.

-- the mark of a regex
abbrev pub marked_in : List ℕ → List Bool → ℕ → Bool
marked_in order marks n = elim (number_in order n) [ None ↦ false | Some number ↦ is_marked marks number ]

pub marked_by_number : (order : List ℕ) (marks : List Bool) (n k : ℕ) (b : Bool)
    → Some k ≡ position (nat_eq n) order → b ≡ get_or marks k b → k < length marks → b ≡ marked_in order marks n
marked_by_number order marks n k b at is within =
    let there : number_in order n ≡ Some k = sym (number_from_index order n (Some k) at) in
    is
    ∙ get_or_default marks k b false within
    ∙ ap (λ o. elim o as (λ _. Bool) [ None ↦ false | Some number ↦ is_marked marks number ]) (sym there)

pub dead_by_number : (t : Traced) (n k : ℕ) (b : Bool) → Some k ≡ position (nat_eq n) t.order
    → b ≡ get_or t.dead k b → k < length t.dead → b ≡ is_dead_in t n
dead_by_number t n k b at is within = marked_by_number t.order t.dead n k b at is within

pub unmarked_without_number : (order : List ℕ) (marks : List Bool) (n : ℕ) → position (nat_eq n) order ≡ None
    → false ≡ marked_in order marks n
unmarked_without_number order marks n none =
    ap (λ o. elim o as (λ _. Bool) [ None ↦ false | Some number ↦ is_marked marks number ])
    (number_from_index order n None (sym none))

pub alive_without_number : (t : Traced) (n : ℕ) → position (nat_eq n) t.order ≡ None → false ≡ is_dead_in t n
alive_without_number t n none = unmarked_without_number t.order t.dead n none

-- Expanded regexes.

pub expanded_told : (t : Traced) (n : ℕ) → is_expanded_in t n ≡ true → IsExpandedIn t n
expanded_told t n h = step (number_in t.order n) refl h
  where
    step : (o : Option ℕ) → number_in t.order n ≡ o
        → elim o as (λ _. Bool) [ None ↦ false | Some number ↦ is_marked t.expanded number ] ≡ true
        → IsExpandedIn t n
    step None is h = absurd (true≢false (sym h))
    step (Some k) is h = (k, is, h)

pub expanded_shown : (t : Traced) (n : ℕ) → IsExpandedIn t n → is_expanded_in t n ≡ true
expanded_shown t n e =
    ap (λ o. elim o as (λ _. Bool) [ None ↦ false | Some number ↦ is_marked t.expanded number ]) e.1 ∙ e.2

-- the regex with the number is expanded behind a line that was put, and no other one more
pub expanded_put : (t u : Traced) (e : Expand) (regex number : ℕ) → u.order ≡ t.order
    → number_in t.order regex ≡ Some number
    → ((n : ℕ) → is_marked u.expanded n ≡ (is_put e number n || is_marked t.expanded n))
    → (n : ℕ) → is_expanded_in u n ≡ (is_put e regex n || is_expanded_in t n)
expanded_put t u e regex number order first marks n =
    ap (λ ns. marked_in ns u.expanded n) order ∙ step (number_in t.order n) refl
  where
    flip : (k : ℕ) → number_in t.order n ≡ Some k → (b c : Bool) → nat_eq k number ≡ b → nat_eq n regex ≡ c → b ≡ c
    flip k g true true x y = refl
    flip k g false false x y = refl
    flip k g true false x y =
        let same : number_in t.order n ≡ Some number = g ∙ ap Some (nat_same k number x) in
        absurd (true≢false (sym (same_nat n regex (one_number t.order n regex number same first)) ∙ y))
    flip k g false true x y =
        let same : Some k ≡ Some number = sym g ∙ ap (number_in t.order) (nat_same n regex y) ∙ first in
        let e : k ≡ number = Prim.cc (same) in
        absurd (true≢false (sym (same_nat k number e) ∙ x))

    both : (e : Expand) (k : ℕ) → number_in t.order n ≡ Some k → is_put e number k ≡ is_put e regex n
    both expand.Expanded k g = flip k g (nat_eq k number) (nat_eq n regex) refl refl
    both expand.Already k g = refl
    both expand.Spent k g = refl

    without : (e : Expand) → number_in t.order n ≡ None → false ≡ (is_put e regex n || false)
    without expand.Expanded g = other (nat_eq n regex) refl
      where
        other : (b : Bool) → nat_eq n regex ≡ b → false ≡ (b || false)
        other false is = refl
        other true is =
            absurd (true≢false (ap is_some (sym first ∙ ap (number_in t.order) (sym (nat_same n regex is)) ∙ g)))
    without expand.Already g = refl
    without expand.Spent g = refl

    step : (o : Option ℕ) → number_in t.order n ≡ o
        → elim o as (λ _. Bool) [ None ↦ false | Some k ↦ is_marked u.expanded k ]
        ≡ (is_put e regex n || elim o as (λ _. Bool) [ None ↦ false | Some k ↦ is_marked t.expanded k ])
    step None g = without e g
    step (Some k) g = marks k ∙ ap (λ b. b || is_marked t.expanded k) (both e k g)
