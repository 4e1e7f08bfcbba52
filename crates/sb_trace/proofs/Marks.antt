-- Marks on the numbers of regexes, one more in each step.
use Rattle.std.proofs.Common.{◌≡◌, ℕ, zero, suc, ◌+◌, ◌<◌, ◌≤◌, nat_eq, Bool, true, false, cond, ◌||◌, List, [], ◌∷◌, ◌++◌, length, get_or, set, take, map, Option, Some, refl, sym, ap, ◌∙◌, arith}
use Rattle.std.specs.List.{list_any}
use Rattle.std.proofs.lemmas.Bool.Decides.{nat_tests}
use Rattle.std.proofs.lemmas.List.{take_more, take_all, length-map}
use Rattle.std.proofs.lemmas.List.Folds.{list_any-append}
use Rattle.sb_graph.specs.Findings.{is_marked}
use Rattle.sb_trace.specs.Tracking.{number_in}
use Rattle.sb_trace.proofs.ExpansionLines.{mark_set}
use Rattle.sb_trace.proofs.DeadLines.{AreNumbers, cond_or}

number_of_place : (f : ℕ → Option ℕ) (xs ns : List ℕ) (i x k : ℕ) → map f xs ≡ map Some ns → i < length xs
    → x ≡ get_or xs i x → f x ≡ Some k → get_or ns i k ≡ k
number_of_place f [] ns i x k h l is here = absurd (omega (arith, l))
number_of_place f (y ∷ xs) [] i x k h l is here = absurd (Prim.cc (h))
number_of_place f (y ∷ xs) (n ∷ ns) zero x k h l is here =
    let first : f y ≡ Some n = Prim.cc (h) in
    let e : x ≡ y = is in
    let both : Some n ≡ Some k = sym first ∙ ap f (sym e) ∙ here in
    Prim.cc (both)
number_of_place f (y ∷ xs) (n ∷ ns) (suc i) x k h l is here =
    let rest : map f xs ≡ map Some ns = Prim.cc (h) in
    number_of_place f xs ns i x k rest (omega (arith, l)) is here

length_numbers : (f : ℕ → Option ℕ) (xs ns : List ℕ) → map f xs ≡ map Some ns → length xs ≡ length ns
length_numbers f xs ns h = sym (length-map xs f) ∙ ap length h ∙ length-map ns Some

or_round : (a b c : Bool) → (a || (b || c)) ≡ ((b || (a || false)) || c)
or_round true true c = refl
or_round true false c = refl
or_round false true c = refl
or_round false false c = refl

pub mark_more : (order regexes numbers : List ℕ) (i regex k : ℕ) (dead old : List Bool) (n : ℕ)
    → AreNumbers order regexes numbers → i < length regexes → regex ≡ get_or regexes i regex
    → number_in order regex ≡ Some k → k < length dead
    → is_marked dead n ≡ (list_any (nat_eq n) (take i numbers) || is_marked old n)
    → is_marked (set dead k true) n ≡ (list_any (nat_eq n) (take (i + 1) numbers) || is_marked old n)
mark_more order regexes numbers i regex k dead old n h low is here within before =
    let l : i < length numbers = omega (arith, low, length_numbers (number_in order) regexes numbers h) in
    mark_set dead k n within
    ∙ cond_or (nat_eq n k) (is_marked dead n)
    ∙ ap (λ b. nat_eq n k || b) before
    ∙ or_round (nat_eq n k) (list_any (nat_eq n) (take i numbers)) (is_marked old n)
    ∙ ap (λ b. b || is_marked old n) (sym (list_any-append (nat_eq n) (take i numbers) (k ∷ [])))
    ∙ ap (λ (m : ℕ). list_any (nat_eq n) (take i numbers ++ m ∷ []) || is_marked old n)
    (sym (number_of_place (number_in order) regexes numbers i regex k h low is here))
    ∙ ap (λ ms. list_any (nat_eq n) ms || is_marked old n) (sym (take_more numbers i k l))

pub mark_all : (order regexes numbers : List ℕ) (i : ℕ) (dead old : List Bool) (n : ℕ)
    → AreNumbers order regexes numbers → length regexes ≤ i
    → is_marked dead n ≡ (list_any (nat_eq n) (take i numbers) || is_marked old n)
    → is_marked dead n ≡ (list_any (nat_eq n) numbers || is_marked old n)
mark_all order regexes numbers i dead old n h high before =
    let l : length numbers ≤ i = omega (arith, high, length_numbers (number_in order) regexes numbers h) in
    before ∙ ap (λ ms. list_any (nat_eq n) ms || is_marked old n) (take_all i numbers l)

-- a mark on another number changes nothing
pub mark_elsewhere : (dead old : List Bool) (k n : ℕ) → k < length dead → k < n → is_marked dead n ≡ is_marked old n
    → is_marked (set dead k true) n ≡ is_marked old n
mark_elsewhere dead old k n within less h =
    mark_set dead k n within ∙ ap (λ b. cond b true (is_marked dead n)) (apart n k less) ∙ h
  where
    apart : (m j : ℕ) → j < m → nat_eq m j ≡ false
    apart m j l = grind (arith, nat_tests)
