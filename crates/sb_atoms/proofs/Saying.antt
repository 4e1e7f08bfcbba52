-- The clauses of an atom, in order, say that it is as true as what it says of its literals.
use Rattle.std.proofs.Common.{◌≡◌, ℕ, Bool, true, false, not, ◌&&◌, ◌==◌, if◌then◌else◌, List, [], ◌∷◌, refl, sym, ap₂, subst, ◌∙◌, arith, inl, inr}
use Rattle.std.specs.List.{list_any, flat_map}
use Rattle.std.specs.Ordering.{is_lt, bool_cmp}
use Rattle.std.proofs.Math.Bool.{and-true}
use Rattle.std.proofs.lemmas.Bool.{and_parts, false≢true, or_left, or_right, or_cases, eqb-true, le-ltb, eq-eqb}
use Rattle.std.proofs.lemmas.List.Folds.{list_all-append}
use Rattle.sb_lit.specs.declared.clause.Lit.{Lit}
use Rattle.sb_lit.specs.Clauses.{are_ascending, is_among, is_same_literal, literal_order, negation}
use Rattle.sb_lit.proofs.CallerLemmas.{is_same_literal-self, is_same_literal-of, literal_of_parts}
use Rattle.sb_rulebook.specs.Atoms.{AtomOver, literal_holds}
use Rattle.sb_rulebook.specs.Gates.{clauses_of}
use Rattle.sb_rulebook.specs.Translation.{in_order}
use Rattle.sb_sound.specs.GateLaws.{all_hold, is_as_it_says}
use Rattle.sb_sound.proofs.CallerLemmas.{any_of_both, clauses_say}
use Rattle.sb_atoms.specs.GateClauses.{clause_of, gate_clauses, is_trivial}
use Rattle.sb_atoms.proofs.GateFacts.{any_order}
use Rattle.sb_atoms.proofs.Ordered.{order_ascends}

-- Of literals that ascend two of one atom have both signs.

by_sign : (p q : Bool) → is_lt (bool_cmp q p) ≡ true → q ≡ not p
by_sign true true h = absurd (false≢true h)
by_sign true false h = refl
by_sign false true h = absurd (false≢true h)
by_sign false false h = absurd (false≢true h)

at_one_atom : (a : ℕ) (p q : Bool)
    → is_lt (literal_order (record { atom = a; positive = p }) (record { atom = a; positive = q })) ≡ true → q ≡ not p
at_one_atom a p q h = by_sign p q (rw (le-ltb a a (omega arith), eq-eqb a a refl) at h)

of_one_atom : (a b : ℕ) (p q : Bool) → a ≡ b
    → is_lt (literal_order (record { atom = a; positive = p }) (record { atom = b; positive = q })) ≡ true → q ≡ not p
of_one_atom a b p q e h =
    at_one_atom a p q (subst (λ n. is_lt (literal_order (record { atom = a; positive = p })
    (record { atom = n; positive = q })) ≡ true) (sym e) h)

are_opposite : (l m : Lit) → (l.atom == m.atom) ≡ true → is_lt (literal_order l m) ≡ true → m ≡ negation l
are_opposite l m same h =
    let e : l.atom ≡ m.atom = eqb-true l.atom m.atom same in
    literal_of_parts m.atom l.atom m.positive (not l.positive) (sym e)
    (of_one_atom l.atom m.atom l.positive m.positive e h)

-- A clause that is left out is always true.

trivial_holds : (truths : List Bool) (ls : List Lit) → are_ascending ls ≡ true → is_trivial ls ≡ true
    → list_any (literal_holds truths) ls ≡ true
trivial_holds truths [] h t = absurd (false≢true t)
trivial_holds truths (l ∷ []) h t = absurd (false≢true t)
trivial_holds truths (l ∷ m ∷ ms) h t =
    let p = and_parts (is_lt (literal_order l m)) (are_ascending (m ∷ ms)) h in
    elim (or_cases (l.atom == m.atom) (is_trivial (m ∷ ms)) t) [
      | inl same ↦ any_of_both truths (l ∷ m ∷ ms) l
          (or_left (is_same_literal l l) (is_among (m ∷ ms) l) (is_same_literal-self l))
          (or_right (is_same_literal l (negation l)) (is_among (m ∷ ms) (negation l))
          (or_left (is_same_literal m (negation l)) (is_among ms (negation l))
          (is_same_literal-of m (negation l) (are_opposite l m same p.0))))
      | inr later ↦ or_right (literal_holds truths l) (list_any (literal_holds truths) (m ∷ ms))
          (trivial_holds truths (m ∷ ms) p.1 later)
    ]

one_says : (truths : List Bool) (ls : List Lit) → all_hold truths (clause_of ls) ≡ list_any (literal_holds truths) ls
one_says truths ls = step (is_trivial (in_order ls)) refl
  where
    step : (b : Bool) → is_trivial (in_order ls) ≡ b
        → all_hold truths (if b then [] else in_order ls ∷ []) ≡ list_any (literal_holds truths) ls
    step true e =
        sym (sym (any_order (literal_holds truths) ls) ∙ trivial_holds truths (in_order ls) (order_ascends ls) e)
    step false e =
        and-true (list_any (literal_holds truths) (in_order ls)) ∙ any_order (literal_holds truths) ls

-- Of all clauses of an atom.

ordered_say : (truths : List Bool) (cs : List (List Lit)) → all_hold truths (flat_map clause_of cs) ≡ all_hold truths cs
ordered_say truths [] = refl
ordered_say truths (c ∷ cs) =
    list_all-append (list_any (literal_holds truths)) (clause_of c) (flat_map clause_of cs)
    ∙ ap₂ (λ a b. a && b) (one_says truths c) (ordered_say truths cs)

pub all_say : (truths : List Bool) (g : ℕ) (a : AtomOver ℕ)
    → all_hold truths (gate_clauses g a) ≡ is_as_it_says truths g a
all_say truths g a = ordered_say truths (clauses_of g a) ∙ clauses_say truths g a
