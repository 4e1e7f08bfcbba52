use Rattle.std.proofs.Common.{List, refl, sym, ◌∙◌, ap, map}
use Rattle.sb_lit.specs.declared.clause.ClauseId.{ClauseId}
use Rattle.sb_analyze.specs.Explained.{greatest_at}
use Rattle.sb_lit.specs.Clauses.{are_ascending}
use Rattle.sb_analyze.proofs.Orders.{ascending_from_sort}
use Rattle.sb_analyze.proofs.explain.lesson.Goals as goal

pub returns : goal.returns
returns c = record {
  permutation = rw c.from_literals.ensures c.sort_unstable.ensures.permutation;
  ascending = λ distinct. ap are_ascending c.from_literals.ensures
      ∙ ascending_from_sort _ _ c.sort_unstable.ensures.permutation c.sort_unstable.ensures.sorted distinct;
  hints = c.new.ensures ∙ ap (map (λ id. id.0)) c.reverse.ensures.items;
  scope = c.greatest_level-level.ensures
      ∙ ap (λ (ids : List ClauseId). greatest_at c.args.clauses.now (map (λ id. id.0) ids)) c.deref.ensures.value
      ∙ ap (greatest_at c.args.clauses.now) (sym c.new.ensures);
  level = refl;
}
