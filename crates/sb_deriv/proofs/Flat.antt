-- The regexes of all pieces in one list.
use Rattle.std.proofs.Common.{◌≡◌, ℕ, suc, ◌-◌, ◌≤◌, List, [], ◌∷◌, ◌++◌, length, take, drop, map, refl, ap, ap₂, ◌∙◌, arith, length-drop, length-append}
use Rattle.std.specs.List.{All}
use Rattle.std.proofs.lemmas.List.{map-append, take-append-le, drop-append-le, take_all}
use Rattle.sb_deriv.specs.Choices.{choice_of}

abbrev Span : Type 0
Span = ℕ × (ℕ × ℕ)

abbrev pub AreWithin : List ℕ → List Span → Type 0
AreWithin ids ps = All (λ p. (p.1.0 ≤ p.1.1) × (p.1.1 ≤ length ids)) ps

longer : (ids more : List ℕ) (p : Span) → p.1.0 ≤ p.1.1 → p.1.1 ≤ length ids
    → choice_of (ids ++ more) p ≡ choice_of ids p
longer ids more p a b =
    ap (λ xs. (p.0, take (p.1.1 - p.1.0) xs)) (drop-append-le p.1.0 ids more (omega (arith, a, b)))
    ∙ ap (λ xs. (p.0, xs)) (take-append-le (p.1.1 - p.1.0) (drop p.1.0 ids) more
    (omega (arith, a, b, length-drop p.1.0 ids)))

same_choices : (ids more : List ℕ) (ps : List Span) → AreWithin ids ps
    → map (choice_of (ids ++ more)) ps ≡ map (choice_of ids) ps
same_choices ids more [] h = refl
same_choices ids more (p ∷ ps) h =
    let a = h 0 p (omega arith) in
    ap₂ (λ x xs. x ∷ xs) (longer ids more p a.0 a.1)
    (same_choices ids more ps (λ k d l. h (suc k) d (omega (arith, l))))

drop_seam : (ids more : List ℕ) → drop (length ids) (ids ++ more) ≡ more
drop_seam [] more = refl
drop_seam (x ∷ ids) more = drop_seam ids more

last_choice : (ids more : List ℕ) (f s e : ℕ) → s ≡ length ids → e ≡ length (ids ++ more)
    → choice_of (ids ++ more) (f, (s, e)) ≡ (f, more)
last_choice ids more f s e a b =
    ap (λ n. (f, take (e - n) (drop n (ids ++ more)))) a
    ∙ ap (λ xs. (f, take (e - length ids) xs)) (drop_seam ids more)
    ∙ ap (λ xs. (f, xs)) (take_all (e - length ids) more (omega (arith, b, length-append ids more)))

pub one_more : (ids ids' more : List ℕ) (ps ps' : List Span) (f s e : ℕ) → AreWithin ids ps → ids' ≡ ids ++ more
    → s ≡ length ids → e ≡ length ids' → ps' ≡ ps ++ (f, (s, e)) ∷ [] →
    map (choice_of ids') ps' ≡ map (choice_of ids) ps ++ (f, more) ∷ []
one_more ids ids' more ps ps' f s e h i a b p =
    ap₂ (λ x y. map (choice_of x) y) i p
    ∙ map-append (choice_of (ids ++ more)) ps ((f, (s, e)) ∷ [])
    ∙ ap₂ (λ x y. x ++ y ∷ []) (same_choices ids more ps h) (last_choice ids more f s e a (b ∙ ap length i))
