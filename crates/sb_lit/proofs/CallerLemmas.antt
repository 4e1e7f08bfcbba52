-- What a caller cites of literals, of lists of them, and of clauses where some literals are true.
use Rattle.std.proofs.Common.{◌≡◌, ℕ, Bool, true, false, not, cond, ◌&&◌, ◌||◌, eqb, List, [], ◌∷◌, ◌++◌, map, refl, sym, ◌∙◌, ap, inl, inr}
use mathlib.Core.Bool.{beq}
use Rattle.std.specs.List.{list_all}
use Rattle.std.proofs.Math.Bool.{not-not, or-false}
use Rattle.std.proofs.lemmas.Bool.{false≢true, and_parts, and_from, and_left, or_left, or_right, or_cases, cases_Bool, not-true, eqb-true, eq-eqb, ne_eqb, false_from_ne_true}
use Rattle.std.proofs.lemmas.List.Folds.{list_any-append}
use Rattle.sb_lit.specs.declared.clause.Lit.{Lit}
use Rattle.sb_lit.specs.Clauses.{negation, is_same_literal, is_among, is_true_under, is_false_under, is_open_under}

-- signs
same_sign : (a b : Bool) → cond a b (not b) ≡ true → a ≡ b
same_sign true true h = refl
same_sign true false h = absurd (false≢true h)
same_sign false true h = absurd (false≢true h)
same_sign false false h = refl

same_sign_self : (a : Bool) → cond a a (not a) ≡ true
same_sign_self true = refl
same_sign_self false = refl

other_sign : (a : Bool) → cond (not a) a (not a) ≡ false
other_sign true = refl
other_sign false = refl

-- the test whether two signs are one, as `==` makes it
pub beq-cond : (a b : Bool) → beq a b ≡ cond a b (not b)
beq-cond true true = refl
beq-cond true false = refl
beq-cond false true = refl
beq-cond false false = refl

pub literal_of_parts : (a b : ℕ) (p q : Bool) → a ≡ b → p ≡ q
    → ◌≡◌ {A = Lit} (record { atom = a; positive = p }) (record { atom = b; positive = q })
literal_of_parts a b p q e f = cc

-- the test of literals is equality
pub is_same_literal-true : (l m : Lit) → is_same_literal l m ≡ true → l ≡ m
is_same_literal-true l m h =
    let parts = and_parts (eqb l.atom m.atom) (cond l.positive m.positive (not m.positive)) h in
    literal_of_parts l.atom m.atom l.positive m.positive (eqb-true l.atom m.atom parts.0)
    (same_sign l.positive m.positive parts.1)

pub is_same_literal-self : (l : Lit) → is_same_literal l l ≡ true
is_same_literal-self l =
    and_from (eqb l.atom l.atom) (cond l.positive l.positive (not l.positive)) (eq-eqb l.atom l.atom refl)
    (same_sign_self l.positive)

pub is_same_literal-of : (l m : Lit) → l ≡ m → is_same_literal l m ≡ true
is_same_literal-of l m e = rw (← e) (is_same_literal-self l)

pub is_same_literal-apart : (l m : Lit) → (l.atom ≡ m.atom → ⊥) → is_same_literal l m ≡ false
is_same_literal-apart l m other =
    and_left (eqb l.atom m.atom) (cond l.positive m.positive (not m.positive)) (ne_eqb l.atom m.atom other)

pub is_same_literal-negation : (l : Lit) → is_same_literal (negation l) l ≡ false
is_same_literal-negation l = false_from_ne_true (is_same_literal (negation l) l) (λ h.
    let parts = and_parts (eqb l.atom l.atom) (cond (not l.positive) l.positive (not l.positive)) h in
    false≢true (sym (other_sign l.positive) ∙ parts.1))

-- and it is what `==` finds out
pub is_same_literal-beq : (l m : Lit) → (eqb l.atom m.atom && beq l.positive m.positive) ≡ is_same_literal l m
is_same_literal-beq l m = ap (λ b. eqb l.atom m.atom && b) (beq-cond l.positive m.positive)

-- the literal of the other sign
pub negation_twice : (l : Lit) → negation (negation l) ≡ l
negation_twice l = literal_of_parts l.atom l.atom (not (not l.positive)) l.positive refl (not-not l.positive)

pub negation_moved : (l m : Lit) → l ≡ negation m → negation l ≡ m
negation_moved l m e = ap negation e ∙ negation_twice m

-- literals of a list
pub all_among : (p : Lit → Bool) (ls : List Lit) (l : Lit) → list_all p ls ≡ true → is_among ls l ≡ true → p l ≡ true
all_among p [] l h among = absurd (false≢true among)
all_among p (m ∷ ms) l h among =
    let parts = and_parts (p m) (list_all p ms) h in
    elim (or_cases (is_same_literal m l) (is_among ms l) among) [
      | inl here ↦ ap p (sym (is_same_literal-true m l here)) ∙ parts.0
      | inr later ↦ all_among p ms l parts.1 later
    ]

pub all_from_among : (p : Lit → Bool) (ls : List Lit) → ((l : Lit) → is_among ls l ≡ true → p l ≡ true)
    → list_all p ls ≡ true
all_from_among p [] h = refl
all_from_among p (m ∷ ms) h =
    and_from (p m) (list_all p ms) (h m (or_left (is_same_literal m m) (is_among ms m) (is_same_literal-self m)))
    (all_from_among p ms (λ l among. h l (or_right (is_same_literal m l) (is_among ms l) among)))

pub among_push : (ls : List Lit) (m l : Lit)
    → is_among (ls ++ m ∷ []) l ≡ (is_among ls l || (is_same_literal m l || false))
among_push ls m l = list_any-append (λ x. is_same_literal x l) ls (m ∷ [])

pub among_push_other : (ls : List Lit) (m l : Lit) → is_same_literal m l ≡ false
    → is_among (ls ++ m ∷ []) l ≡ is_among ls l
among_push_other ls m l other = among_push ls m l ∙ rw other (or-false (is_among ls l))

pub among_push_same : (ls : List Lit) (m : Lit) → is_among (ls ++ m ∷ []) m ≡ true
among_push_same ls m =
    among_push ls m m ∙ or_right (is_among ls m) (is_same_literal m m || false)
    (or_left (is_same_literal m m) false (is_same_literal-self m))

among_negated_one : (m l : Lit) → is_same_literal (negation m) l ≡ is_same_literal m (negation l)
among_negated_one m l =
    elim (cases_Bool (is_same_literal m (negation l))) [
      | inl same ↦ is_same_literal-of (negation m) l (negation_moved m l (is_same_literal-true m (negation l) same))
          ∙ sym same
      | inr other ↦ false_from_ne_true (is_same_literal (negation m) l) (λ h.
          let e : m ≡ negation l = sym (negation_twice m) ∙ ap negation (is_same_literal-true (negation m) l h) in
          false≢true (sym other ∙ is_same_literal-of m (negation l) e)) ∙ sym other
    ]

pub among_negated : (ls : List Lit) (l : Lit) → is_among (map negation ls) l ≡ is_among ls (negation l)
among_negated [] l = refl
among_negated (m ∷ ms) l = rw (among_negated_one m l, among_negated ms l) refl

-- a literal without a value is neither false nor true
pub open-not_false : (held : List Lit) (l : Lit) → is_open_under held l ≡ true → is_false_under held l ≡ false
open-not_false held l h =
    not-true (is_false_under held l) (and_parts (not (is_true_under held l)) (not (is_false_under held l)) h).1

pub open-not_true : (held : List Lit) (l : Lit) → is_open_under held l ≡ true → is_true_under held l ≡ false
open-not_true held l h =
    not-true (is_true_under held l) (and_parts (not (is_true_under held l)) (not (is_false_under held l)) h).0
