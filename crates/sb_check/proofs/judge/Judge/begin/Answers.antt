use Rattle.std.proofs.Common.{refl, ap, sym, ◌+◌}
use Rattle.sb_rulebook.specs.Kept.{nothing_kept}
use Rattle.sb_check.proofs.judge.Judge.begin.Goals as goal

pub returns-then-format-eq1-clause-ok : goal.returns-then-format-eq1-clause-ok
returns-then-format-eq1-clause-ok c phase p a = rw c.if-format-eq1.true (
  record {
    is = a.is;
    begun = refl;
    next = ap (λ n. n + 1) a.next;
    others = nothing_kept 1;
    format = refl;
    kept = sym (c.requires.standing.fresh c.requires.first 1);
  },
  refl,
)
