use Rattle.std.proofs.Common.{◌∙◌, sym}
use Rattle.std.proofs.lemmas.Bool.{eqb-true, eq-eqb}
use Rattle.sb_class.proofs.RangeFacts.{IsEmptySet-nil, nil_from_IsEmptySet}
use Rattle.sb_class.proofs.Class.is_empty.Goals as goal

pub returns : goal.returns
returns c =
    let ranges = c.self.inside.ranges in
    rw (← c.self.view_is) (
      λ t. IsEmptySet-nil ranges.items (sym ranges.ok.0 ∙ eqb-true _ _ (sym c.is_empty.ensures ∙ t)),
      λ none. c.is_empty.ensures ∙ eq-eqb _ _ (ranges.ok.0 ∙ nil_from_IsEmptySet ranges.items c.self.invariant none),
    )
