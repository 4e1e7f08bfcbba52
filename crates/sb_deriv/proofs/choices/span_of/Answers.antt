use Rattle.std.proofs.Common.{List, [], ℕ, set, ap, subst, ◌∙◌}
use Rattle.std.proofs.lemmas.List.{get_or_default}
use Rattle.sb_deriv.specs.Choices.{IsSpan}
use Rattle.sb_deriv.proofs.Choosing.{set_back}
use Rattle.sb_deriv.proofs.choices.span_of.Goals as goal

pub returns-clause-same : goal.returns-clause-same
returns-clause-same c =
    ap (λ m. set c.args.maps.now.items c.args.i m) c.span_at.ensures.same
    ∙ set_back c.args.maps.now.items c.args.i c.index_mut.result.now c.requires.within c.index_mut.ensures.value

pub returns-clause-span : goal.returns-clause-span
returns-clause-span c =
    subst (λ (m : List (ℕ × ℕ)). IsSpan m c.args.c c.span_at.result.0 c.span_at.result.1) (c.index_mut.ensures.value
    ∙ get_or_default c.args.maps.now.items c.args.i c.index_mut.result.now [] c.requires.within) c.span_at.ensures.span
