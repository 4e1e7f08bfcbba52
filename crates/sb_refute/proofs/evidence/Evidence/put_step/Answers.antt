use Rattle.sb_rulebook.specs.Lines as lines
use Rattle.sb_refute.proofs.Words.{List, refl, sym, ap, ◌∙◌, on_ok_weaker, false≢true, Lit, line, rule_line, text_of, with_bytes, called_none}
use Rattle.sb_refute.proofs.evidence.Evidence.put_step.Goals as goal

pub returns-then-not-proves : goal.returns-then-not-proves
returns-then-not-proves g c = record {
  ok = (c.in_ok-add.ensures.adds, λ on. absurd (false≢true (sym c.if-not-proves.true ∙ on)));
  rest = tt;
  counts = refl;
}

pub returns : goal.returns
returns g c =
    let all = c.in_ok-all.ensures in
    record {
      ok = on_ok_weaker c.put_line.result
          (λ told. (
            c.in_ok-add.ensures.adds,
            λ on. (
              all.1,
              told ∙ ap (λ (ls : List Lit). with_bytes (line (text_of (rule_line lines.step ls)))
                  (g.L.Tape.told c.args.tape.now)) all.0,
            ),
          ))
          c.put_line.ensures.told;
      rest = tt;
      counts = c.put_line.ensures.counts;
    }

pub returns-in_err-add : goal.returns-in_err-add
returns-in_err-add g c =
    let x = c.from_residual in called_none _ x.result _ _ x.ensures.0 x.ensures.1 refl tt

pub returns-in_err-all : goal.returns-in_err-all
returns-in_err-all g c =
    let x = c.from_residual-in_err-all in called_none _ x.result _ _ x.ensures.0 x.ensures.1 refl tt
