-- Literals as numbers, and back.
use Rattle.std.proofs.Common.{◌≡◌, ℕ, ◌+◌, ◌*◌, ◌/◌, ◌%◌, Bool, true, false, eqb, cond, refl, ◌∙◌, arith}
use Rattle.std.proofs.lemmas.Bool.{eq-eqb, ne_eqb}
use Rattle.sb_lit.specs.declared.clause.Lit.{Lit}
use Rattle.sb_lit.proofs.CallerLemmas.{literal_of_parts}
use Rattle.sb_trail.specs.Compact.{code_of_literal, literal_of_code}

literal_of_code-plain : (code : ℕ) → literal_of_code code ≡ record { atom = code / 2; positive = eqb (code % 2) 1 }
unfolding literal_of_code
literal_of_code-plain code = refl

pub literal_of_code_of_literal : (l : Lit) → literal_of_code (code_of_literal l) ≡ l
literal_of_code_of_literal l = literal_of_code-plain (code_of_literal l) ∙ go l.atom l.positive
  where
    go : (a : ℕ) (p : Bool) → ◌≡◌ {A = Lit} (record { atom = (2 * a + cond p 1 0) / 2; positive = eqb ((2 * a + cond p 1 0) % 2) 1 })
        (record { atom = a; positive = p })
    go a true = literal_of_parts ((2 * a + 1) / 2) a (eqb ((2 * a + 1) % 2) 1) true (omega arith)
        (eq-eqb ((2 * a + 1) % 2) 1 (omega arith))
    go a false = literal_of_parts ((2 * a + 0) / 2) a (eqb ((2 * a + 0) % 2) 1) false (omega arith)
        (ne_eqb ((2 * a + 0) % 2) 1 (λ e. omega (arith, e)))
