-- Computed examples of the clauses of gates.
use Rattle.std.specs.Prelude.{◌≡◌, ℕ, true, false, [], ◌∷◌, refl}
use Rattle.sb_lit.specs.declared.clause.Lit.{Lit}
use Rattle.sb_rulebook.specs.Atoms.{bool_atom, and_atom, iff_atom}
use Rattle.sb_rulebook.specs.Gates.{is_gate}
use Rattle.sb_sound.specs.GateLaws.{all_hold, is_as_it_says}
use Rattle.sb_atoms.specs.GateClauses.{gate_clauses}

abbrev plus : ℕ → Lit
plus atom = record { atom = atom; positive = true }

abbrev minus : ℕ → Lit
minus atom = record { atom = atom; positive = false }

-- 2: 0 is true and 1 is not
a_conjunction : gate_clauses 2 (and_atom (plus 0 ∷ minus 1 ∷ []))
    ≡ (plus 0 ∷ minus 2 ∷ []) ∷ (minus 1 ∷ minus 2 ∷ []) ∷ (minus 0 ∷ plus 1 ∷ plus 2 ∷ []) ∷ []
a_conjunction = refl

-- of no literals it is true
of_nothing : gate_clauses 3 (and_atom []) ≡ (plus 3 ∷ []) ∷ []
of_nothing = refl

-- of a literal and its negation it is false: its last clause is always true
of_both_signs : gate_clauses 2 (and_atom (plus 0 ∷ minus 0 ∷ [])) ≡ (plus 0 ∷ minus 2 ∷ []) ∷ (minus 0 ∷ minus 2 ∷ []) ∷ []
of_both_signs = refl

-- 2: 0 is true exactly where 1 is
an_equivalence : gate_clauses 2 (iff_atom (plus 0) (plus 1))
    ≡ (plus 0 ∷ plus 1 ∷ plus 2 ∷ []) ∷ (minus 0 ∷ minus 1 ∷ plus 2 ∷ []) ∷ (minus 0 ∷ plus 1 ∷ minus 2 ∷ [])
    ∷ (plus 0 ∷ minus 1 ∷ minus 2 ∷ []) ∷ []
an_equivalence = refl

-- a literal is what itself is: only where the equivalence is true
with_itself : gate_clauses 2 (iff_atom (plus 0) (plus 0)) ≡ (plus 0 ∷ plus 2 ∷ []) ∷ (minus 0 ∷ plus 2 ∷ []) ∷ []
with_itself = refl

-- another atom has none
of_a_constant : gate_clauses 0 (bool_atom 7) ≡ []
of_a_constant = refl

-- each is accepted as a gate, and no other clause of the same literals is
is_accepted : is_gate (bool_atom 0 ∷ bool_atom 1 ∷ iff_atom (plus 0) (plus 1) ∷ []) (plus 0 ∷ minus 1 ∷ minus 2 ∷ [])
    ≡ true
is_accepted = refl

is_refused : is_gate (bool_atom 0 ∷ bool_atom 1 ∷ iff_atom (plus 0) (plus 1) ∷ []) (plus 0 ∷ minus 1 ∷ plus 2 ∷ [])
    ≡ false
is_refused = refl

-- where 0 and 1 are true, 2 is to be
they_say_so : all_hold (true ∷ true ∷ false ∷ []) (gate_clauses 2 (and_atom (plus 0 ∷ plus 1 ∷ []))) ≡ false
they_say_so = refl

it_is_so : is_as_it_says {R = ℕ} (true ∷ true ∷ true ∷ []) 2 (and_atom (plus 0 ∷ plus 1 ∷ [])) ≡ true
it_is_so = refl
