use Rattle.sb_prover.proofs.Words.{ℕ, Bool, List, map, refl, sym, ap, ap₂, subst, ◌∙◌, IsNumbered, Solution, false≢true, line, live_constants, on_ok_weaker, said_by, said_sat, said_value, text_of, verdict_line, with_bytes}
use Rattle.sb_prover.proofs.checking.say_solution.Goals as goal

pub returns-then-not-proves : goal.returns-then-not-proves
returns-then-not-proves g c = record {
  told = λ proves. absurd (false≢true (sym c.if-not-proves.true ∙ proves));
  numbered = λ proves. absurd (false≢true (sym c.if-not-proves.true ∙ proves));
  counts = refl;
}

pub returns-in-Sat : goal.returns-in-Sat
returns-in-Sat g c =
    let s = c.args.stack.now in
    let old = g.L.Tape.told c.args.tape.now in
    record {
      told = on_ok_weaker c.say_values.result
          (λ told proves. told
          ∙ ap₂ (λ (words : List (List ℕ)) (truths : List Bool). with_bytes (line (text_of (verdict_line
          (said_sat (map (said_value words truths) (live_constants s)))))) old)
          c.deref.ensures.value c.deref-in-Sat.ensures.value
          ∙ ap (λ (solution : Solution). with_bytes (line (text_of (verdict_line (said_by s solution)))) old)
          (sym c.in-Sat.is))
          c.say_values.ensures.told;
      numbered = on_ok_weaker c.say_values.result (λ told proves. subst IsNumbered (sym c.in-Sat.is) tt)
          c.say_values.ensures.told;
      counts = c.say_values.ensures.counts;
    }
