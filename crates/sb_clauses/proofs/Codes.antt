-- Watched literals, each kept by the number of its list.
use Rattle.std.proofs.Common.{◌≡◌, ◌≢◌, ℕ, ◌+◌, ◌-◌, ◌*◌, ◌/◌, ◌%◌, ◌^◌, ◌<◌, ◌==◌, Bool, true, false, eqb, cond, List, [], ◌∷◌, length, set, refl, ◌∙◌, ap, inl, inr, arith}
use Rattle.std.specs.List.{list_all}
use Rattle.std.proofs.lemmas.Bool.{cases_eq, eq-eqb, ne_eqb, ltb-true}
use Rattle.std.proofs.lemmas.List.{get_or-set_same, get_or-set_other}
use Rattle.sb_lit.specs.declared.clause.Lit.{Lit}
use Rattle.sb_lit.proofs.CallerLemmas.{all_among}
use Rattle.sb_clauses.specs.Watching.{list_of, literal_of, is_small, watched_at}
use Rattle.sb_clauses.specs.Waiting.{AreWatchable}

literal_of_parts : (a b : ℕ) (p q : Bool) → a ≡ b → p ≡ q
    → ◌≡◌ {A = Lit} (record { atom = a; positive = p }) (record { atom = b; positive = q })
literal_of_parts a b p q e f = rw (e, f) refl

abbrev plain : ℕ → Lit
plain list = record { atom = (list - 2) / 2; positive = list % 2 == 1 }

pub literal_of-plain : (list : ℕ) → literal_of list ≡ record { atom = (list - 2) / 2; positive = list % 2 == 1 }
unfolding literal_of
literal_of-plain list = refl

pub literal_of-list_of : (l : Lit) → literal_of (list_of l) ≡ l
literal_of-list_of l = literal_of-plain (list_of l) ∙ go l.atom l.positive
  where
    go : (a : ℕ) (p : Bool) → plain (2 * a + cond p 3 2) ≡ record { atom = a; positive = p }
    go a true = literal_of_parts ((2 * a + 3 - 2) / 2) a (eqb ((2 * a + 3) % 2) 1) true (omega arith)
        (eq-eqb ((2 * a + 3) % 2) 1 (omega arith))
    go a false = literal_of_parts ((2 * a + 2 - 2) / 2) a (eqb ((2 * a + 2) % 2) 1) false (omega arith)
        (ne_eqb ((2 * a + 2) % 2) 1 (λ e. omega (arith, e)))

pub list_of-literal_of : (code : ℕ) → 1 < code → list_of (literal_of code) ≡ code
list_of-literal_of code begun = ap list_of (literal_of-plain code) ∙ elim (cases_eq (code % 2) 1) [
  | inl odd ↦ rw (eq-eqb (code % 2) 1 odd) (omega (arith, odd, begun))
  | inr even ↦ rw (ne_eqb (code % 2) 1 even) (omega (arith, even, begun))
]

pub watched-set_same : (codes : List ℕ) (n : ℕ) (l : Lit) → n < length codes
    → watched_at (set codes n (list_of l)) n ≡ l
watched-set_same codes n l inside =
    ap literal_of (get_or-set_same codes n (list_of l) 0 inside) ∙ literal_of-list_of l

pub watched-set_other : (codes : List ℕ) (n id : ℕ) (l : Lit) → id ≢ n
    → watched_at (set codes n (list_of l)) id ≡ watched_at codes id
watched-set_other codes n id l apart = ap literal_of (get_or-set_other codes n id (list_of l) 0 apart)

-- the watched literals of a clause with lists have small atoms
pub watched_small : (c : List Lit) (a b : Lit) → list_all is_small c ≡ true → AreWatchable c a b → a.atom < 2 ^ 30
watched_small [] a b small h = rw (h.bare refl).0 (omega arith)
watched_small (x ∷ xs) a b small h =
    ltb-true a.atom (2 ^ 30) (all_among is_small (x ∷ xs) a small (h.inside (omega arith)).0)
