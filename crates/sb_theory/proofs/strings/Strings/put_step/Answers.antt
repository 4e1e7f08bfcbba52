use Rattle.sb_theory.proofs.Words.{◌∙◌, List, ap, sym, IfOk-from_err, Lit, counts_none, err_from_is_err_and, list_all, on_ok_weaker}
use Rattle.sb_rulebook.specs.LineLaws.{is_small_literal}
use Rattle.sb_rulebook.specs.Lines.{rule_line, step, text_of}
use Rattle.sb_script.specs.Steps.{line as ended}
use Rattle.sb_proof.specs.Tapes.{with_bytes}
use Rattle.sb_theory.proofs.strings.Strings.put_step.Goals as goal

pub returns-in_err-literals : goal.returns-in_err-literals
returns-in_err-literals g c =
    let r = c.from_residual in
    let p = err_from_is_err_and r.result r.ensures.1 in
    record { told = IfOk-from_err r.result _ r.ensures.0; counts = counts_none r.result p.0 _ p.1 p.2 }

pub returns : goal.returns
returns g c =
    let all = c.in_ok-literals.ensures in
    record {
      told = on_ok_weaker c.put_line.result
          (λ told. record {
            text = ap (list_all is_small_literal) (sym c.literals.ensures) ∙ all.1;
            told = told
                ∙ ap (λ (ls : List Lit). with_bytes (ended (text_of (rule_line step ls))) (g.L.Tape.told
                c.args.tape.now))
                (all.0 ∙ c.literals.ensures);
          }) c.put_line.ensures.told;
      counts = c.put_line.ensures.counts;
    }
