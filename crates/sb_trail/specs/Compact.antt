-- Literals by numbers, as they are kept.
use Rattle.std.specs.Prelude.{◌≡◌, ℕ, ◌+◌, ◌*◌, ◌/◌, ◌%◌, ◌==◌, if◌then◌else◌}
use Rattle.std.proofs.Common.{inl, inr, arith}
use Rattle.std.proofs.lemmas.Bool.{cases_eq, eq-eqb, ne_eqb}
use Rattle.sb_lit.specs.declared.clause.Lit.{Lit}

-- twice the atom, and 1 more where the literal is positive
abbrev pub code_of_literal : Lit → ℕ
code_of_literal l = 2 * l.atom + (if l.positive then 1 else 0)

unfoldable pub literal_of_code : ℕ → Lit
literal_of_code code = record { atom = code / 2; positive = code % 2 == 1 }

-- the number of the literal that a number stands for is that number
pub code_of_literal_of_code : (code : ℕ) → code_of_literal (literal_of_code code) ≡ code
unfolding literal_of_code
code_of_literal_of_code code = elim (cases_eq (code % 2) 1) [
  | inl odd ↦ rw (eq-eqb (code % 2) 1 odd) (omega (arith, odd))
  | inr even ↦ rw (ne_eqb (code % 2) 1 even) (omega (arith, even))
]
