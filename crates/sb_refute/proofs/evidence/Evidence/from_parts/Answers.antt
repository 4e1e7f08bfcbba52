use Rattle.sb_refute.proofs.Words.{take, sym, ap, subst, ◌∙◌, Kept, State, IsLowestEmpty, backing_of, Stand}
use Rattle.sb_refute.proofs.Holding.{stand-found}
use Rattle.sb_refute.proofs.evidence.Evidence.from_parts.Goals as goal

pub lowest_empty-parts-requires : goal.lowest_empty-parts-requires
lowest_empty-parts-requires c =
    subst (λ (k : Kept). IsLowestEmpty (take c.args.before k) c.args.parts.refuted)
    (sym (c.clauses.ensures ∙ ap (λ (s : State). s.kept) c.clear.ensures)) c.requires.stands.lowest

pub returns-clause-lowest : goal.returns-clause-lowest
returns-clause-lowest c =
    subst (λ (k : Kept). IsLowestEmpty k c.lowest_empty-parts.result)
    (c.clauses.ensures ∙ ap (λ (s : State). s.kept) c.clear.ensures) c.lowest_empty-parts.ensures

pub invariant_of-result : goal.invariant_of-result
invariant_of-result c =
    let p = backing_of c.args.parts in
    let kept = ap (λ (s : State). s.kept) c.clear.ensures in (
      subst (λ (k : Kept). Stand (record p { kept = k; refuted = c.lowest_empty-parts.result })) (sym kept)
          (stand-found p c.args.before c.lowest_empty-parts.result c.requires.known
          (subst (λ (k : Kept). IsLowestEmpty k c.lowest_empty-parts.result) (c.clauses.ensures ∙ kept)
          c.lowest_empty-parts.ensures)
          c.requires.stands),
      ap (λ (s : State). s.trail.literals) c.clear.ensures,
    )

pub returns-clause-backing : goal.returns-clause-backing
returns-clause-backing c =
    ap (λ (s : State). record (backing_of c.args.parts) { kept = s.kept; refuted = c.lowest_empty-parts.result })
    c.clear.ensures
