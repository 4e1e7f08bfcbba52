use Rattle.std.proofs.Common.{refl, arith, ℕ, ◌<◌, subst, sym, ◌∙◌, ap}
use Rattle.sb_clauses.proofs.Scoping.{top_low}
use Rattle.std.proofs.lemmas.Grind.{common_steps}
use Rattle.sb_clauses.proofs.clauses.pop_above.Goals as goal

pub returns-then-highest-level : goal.returns-then-highest-level
returns-then-highest-level c = (
  top_low c.args.level c.in-Some.highest.now _ (c.in-Some.ensures.greatest c.requires) c.if-highest-level.true,
  refl,
)

pub returns-in_default : goal.returns-in_default
returns-in_default c = grind (arith, common_steps)

pub returns : goal.returns
returns c =
    let top = c.in_ok-number.field-0-0 in
    let same = c.in-Some.ensures.item.3.1 (top, c.in_ok-number.number) ∙ sym c.in_ok-number.ensures.top in
    record {
      highest = top;
      above = subst (λ n. c.args.level < n) (ap (λ (p : ℕ × ℕ). p.0) same) c.if-highest-level.false;
      others = c.in_ok-number.ensures.permutation;
      ordered = (c.in_ok-number.ensures.heap_order c.requires).0;
    }
