-- The texts of values, and of lists of texts.
use Rattle.std.proofs.Common.{◌≡◌, ℕ, ◌+◌, ◌<◌, Bool, if◌then◌else◌, List, [], ◌∷◌, ◌++◌, map, length, take, get_or, refl, ap, sym, ◌∙◌, arith, append_assoc}
use Rattle.std.proofs.Math.Dec.{eqb-suc-zero}
use Rattle.std.proofs.lemmas.List.{map-append, length-map, length-take-le, take_more}
use Rattle.sb_script.specs.Steps.{spaced}
use Rattle.sb_stack.specs.Values.{gap_at}

no_gap : (ts : List (List ℕ)) (s u : List ℕ) → gap_at (length (s ∷ ts)) ++ u ≡ 32 ∷ u
no_gap ts s u = ap (λ (b : Bool). (if b then [] else 32 ∷ []) ++ u) (eqb-suc-zero (length ts))

pub spaced_next : (ts : List (List ℕ)) (u : List ℕ) → spaced (ts ++ u ∷ []) ≡ spaced ts ++ (gap_at (length ts) ++ u)
spaced_next [] u = refl
spaced_next (t ∷ []) u = ap (λ rest. t ++ rest) (sym (no_gap [] t u))
spaced_next (t ∷ s ∷ ts) u =
    let rest : spaced (s ∷ (ts ++ u ∷ [])) ≡ spaced (s ∷ ts) ++ 32 ∷ u =
    spaced_next (s ∷ ts) u ∙ ap (λ r. spaced (s ∷ ts) ++ r) (no_gap ts s u) in
    ap (λ r. t ++ (32 ∷ r)) rest ∙ sym (append_assoc t (32 ∷ spaced (s ∷ ts)) (32 ∷ u))
    ∙ ap (λ r. spaced (t ∷ s ∷ ts) ++ r) (sym (no_gap (s ∷ ts) t u))

-- one more text of a list
pub line_step : {A B : Type 0} (g : B → List ℕ) (f : A → B) (xs : List A) (i : ℕ) (d : A) (old gap new : List ℕ)
    → i < length xs → old ≡ 40 ∷ spaced (map g (map f (take i xs))) → gap ≡ old ++ gap_at i
    → new ≡ gap ++ g (f (get_or xs i d)) → new ≡ 40 ∷ spaced (map g (map f (take (i + 1) xs)))
line_step {A} {B} g f xs i d old gap new within before between done =
    let x : A = get_or xs i d in
    let front : List A = take i xs in
    let ts : List (List ℕ) = map g (map f front) in
    let u : List ℕ = g (f x) in
    let count : length ts ≡ i = length-map (map f front) g ∙ length-map front f ∙ length-take-le i xs (omega arith) in
    let texts : map g (map f (take (i + 1) xs)) ≡ ts ++ u ∷ [] = ap (λ ys. map g (map f ys)) (take_more xs i d within)
    ∙ ap (map g) (map-append f front (x ∷ [])) ∙ map-append g (map f front) (f x ∷ []) in
    done ∙ ap (λ r. r ++ u) (between ∙ ap (λ r. r ++ gap_at i) before) ∙ append_assoc (40 ∷ spaced ts) (gap_at i) u
    ∙ ap (λ n. 40 ∷ (spaced ts ++ (gap_at n ++ u))) (sym count) ∙ ap (λ r. 40 ∷ r) (sym (spaced_next ts u))
    ∙ ap (λ r. 40 ∷ spaced r) (sym texts)

pub in_quotes : (a b c d w : List ℕ) → b ≡ a ++ 34 ∷ [] → c ≡ b ++ w → d ≡ c ++ 34 ∷ [] → d ≡ a ++ (34 ∷ (w ++ 34 ∷ []))
in_quotes a b c d w first second third = third ∙ ap (λ r. r ++ 34 ∷ []) (second ∙ ap (λ r. r ++ w) first)
    ∙ simp append_assoc

-- what is appended twice
pub appended : (old mid new xs ys : List ℕ) → mid ≡ old ++ xs → new ≡ mid ++ ys → new ≡ old ++ (xs ++ ys)
appended old mid new xs ys first second = second ∙ ap (λ r. r ++ ys) first ∙ append_assoc old xs ys

pub two_behind : (a b : ℕ) (xs : List ℕ) → xs ++ (a ∷ b ∷ []) ≡ (xs ++ a ∷ []) ++ b ∷ []
two_behind a b [] = refl
two_behind a b (x ∷ xs) = ap (λ r. x ∷ r) (two_behind a b xs)

pub three_behind : (a b c : ℕ) (xs : List ℕ) → xs ++ (a ∷ b ∷ c ∷ []) ≡ ((xs ++ a ∷ []) ++ b ∷ []) ++ c ∷ []
three_behind a b c [] = refl
three_behind a b c (x ∷ xs) = ap (λ r. x ∷ r) (three_behind a b c xs)
