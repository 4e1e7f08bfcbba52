-- Budgets of which nothing is spent, a step, or more.
use Rattle.std.proofs.Common.{◌≡◌, ◌+◌, ◌≤◌, ltb, refl, sym, ap, subst, ◌∙◌, inl, inr, arith}
use Rattle.std.proofs.lemmas.Bool.{cases_Bool, ltb-true, ltb-false}
use Rattle.sb_lit.specs.Budgets.{Spending}
use Rattle.sb_trace.specs.Putting.{SpendsWithin}

pub spent_none : (b : Spending) → SpendsWithin b b
spent_none b = record { limit = refl; spent = omega arith; within = λ more. absurd (omega (arith, more)) }

pub spent_same : (b c : Spending) → c ≡ b → SpendsWithin b c
spent_same b c same = subst (SpendsWithin b) (sym same) (spent_none b)

pub spent_one : (b c : Spending) → c ≡ record b { spent = b.spent + 1 } → c.spent ≤ c.limit → SpendsWithin b c
spent_one b c is within =
    let more = ap (λ (x : Spending). x.spent) is in
    record { limit = ap (λ (x : Spending). x.limit) is; spent = omega (arith, more); within = λ some. within }

pub spent_both : (a b c : Spending) → SpendsWithin a b → SpendsWithin b c → SpendsWithin a c
spent_both a b c h k = record {
  limit = k.limit ∙ h.limit;
  spent = omega (arith, h.spent, k.spent);
  within = λ more. elim (cases_Bool (ltb b.spent c.spent)) [
    | inl late ↦ k.within (ltb-true b.spent c.spent late)
    | inr early ↦
        let same : c.spent ≡ b.spent = omega (arith, ltb-false b.spent c.spent early, k.spent) in
        omega (arith, h.within (omega (arith, more, same)), k.limit, same)
  ];
}
