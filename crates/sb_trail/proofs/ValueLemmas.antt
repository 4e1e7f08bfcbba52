-- What a trail says of literals.
use Rattle.std.proofs.Common.{◌≡◌, Bool, true, false, not, cond, eqb, List, [], ◌∷◌, Option, Some, None, refl, sym, ◌∙◌, ap, inl, inr}
use mathlib.Core.Bool.{beq}
use Rattle.std.specs.Option.{option_map}
use Rattle.std.proofs.Math.Bool.{or-false}
use Rattle.std.proofs.lemmas.Bool.{false≢true, cases_Bool, eqb-true}
use Rattle.sb_lit.specs.declared.clause.Lit.{Lit}
use Rattle.sb_lit.specs.Clauses.{negation, is_among, value_under}
use Rattle.sb_trail.specs.declared.assigned.Assigned.{Assigned}
use Rattle.sb_trail.specs.Assignments.{entry_of, value_of, held, AreDistinct, IsConsistent}
use Rattle.sb_lit.proofs.CallerLemmas.{beq-cond}

-- two signs are one
abbrev is_same_sign : Bool → Bool → Bool
is_same_sign a b = cond a b (not b)

-- the value is this one
is_value : Option Bool → Bool → Bool
is_value None b = false
is_value (Some a) b = is_same_sign a b

-- an entry that is of an atom, and one that is not, in front of others
of_the_atom : (e : Assigned) (es : List Assigned) (l : Lit) → eqb e.literal.atom l.atom ≡ true
    → is_among (held es) l ≡ false → is_among (held (e ∷ es)) l ≡ is_value (value_of (e ∷ es) l.atom) l.positive
unfolding is_value
of_the_atom e es l same none = rw (same, none) (or-false (is_same_sign e.literal.positive l.positive))

of_another : (e : Assigned) (es : List Assigned) (l : Lit) → eqb e.literal.atom l.atom ≡ false
    → is_among (held es) l ≡ is_value (value_of es l.atom) l.positive
    → is_among (held (e ∷ es)) l ≡ is_value (value_of (e ∷ es) l.atom) l.positive
of_another e es l other rest = rw other rest

-- a literal is one of those that are true where its atom has its sign for a value
among_held : (es : List Assigned) → AreDistinct es → (l : Lit)
    → is_among (held es) l ≡ is_value (value_of es l.atom) l.positive
unfolding is_value
among_held [] h l = refl
among_held (e ∷ es) h l =
    elim (cases_Bool (eqb e.literal.atom l.atom)) [
      | inl same ↦
          let none : entry_of es l.atom ≡ None = rw (← eqb-true e.literal.atom l.atom same) h.0 in
          let missing : is_value (value_of es l.atom) l.positive ≡ false = rw none refl in
          of_the_atom e es l same (among_held es h.1 l ∙ missing)
      | inr other ↦ of_another e es l other (among_held es h.1 l)
    ]

by_value : (v : Option Bool) (b : Bool)
    → cond (is_value v b) (Some true) (cond (is_value v (not b)) (Some false) None)
    ≡ option_map (λ a. is_same_sign a b) v
unfolding is_value
by_value None b = refl
by_value (Some true) true = refl
by_value (Some true) false = refl
by_value (Some false) true = refl
by_value (Some false) false = refl

value_under_held : (es : List Assigned) → AreDistinct es → (l : Lit)
    → value_under (held es) l ≡ option_map (λ a. cond a l.positive (not l.positive)) (value_of es l.atom)
value_under_held es h l =
    rw (among_held es h l, among_held es h (negation l)) (by_value (value_of es l.atom) l.positive)

not_both : (v : Option Bool) (b : Bool) → is_value v b ≡ true → is_value v (not b) ≡ false
unfolding is_value
not_both None b h = refl
not_both (Some true) true h = refl
not_both (Some true) false h = absurd (false≢true h)
not_both (Some false) true h = absurd (false≢true h)
not_both (Some false) false h = refl

pub IsConsistent-held : (es : List Assigned) → AreDistinct es → IsConsistent (held es)
IsConsistent-held es h l is_true =
    among_held es h (negation l) ∙ not_both (value_of es l.atom) l.positive (sym (among_held es h l) ∙ is_true)

pub open_literal : (es : List Assigned) → AreDistinct es → (l : Lit) → None ≡ value_of es l.atom
    → None ≡ value_under (held es) l
open_literal es h l is = sym (value_under_held es h l ∙ rw (← is) refl)

pub literal_with_value : (es : List Assigned) → AreDistinct es → (l : Lit) (a : Bool) → Some a ≡ value_of es l.atom
    → Some (beq a l.positive) ≡ value_under (held es) l
literal_with_value es h l a is = ap (λ b. Some b) (beq-cond a l.positive)
    ∙ sym (value_under_held es h l ∙ rw (← is) refl)
