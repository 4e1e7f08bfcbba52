use Rattle.std.proofs.Common.{ap, sym, ◌∙◌}
use Rattle.std.proofs.lemmas.List.{get_or_default}
use Rattle.std.specs.Cmp.Lexicographic.{same_text}
use Rattle.sb_deriv.specs.Choices.{list_of}
use Rattle.sb_deriv.proofs.pieces.find.Goals as goal

pub returns-then-eq : goal.returns-then-eq
returns-then-eq c =
    let e = get_or_default c.args.known.now c.loop-entry.entry-index (0, 0) c.entry-item.result c.loop-entry-test.true
    ∙ sym c.entry-item.is in
    record {
      place = c.loop-entry.entry-index;
      within = c.loop-entry-test.true;
      is = ap (λ p. p.1) e;
      same = ap (λ p. list_of c.args.choices.now p.0) e ∙ sym c.ids.ensures ∙ same_text _ _ c.if-eq.ensures;
    }
