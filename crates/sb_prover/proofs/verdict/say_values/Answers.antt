use Rattle.sb_prover.proofs.Words.{map, ap, ◌∙◌, line, live_in, said_sat, said_value, text_of, verdict_line, with_bytes}
use Rattle.sb_prover.proofs.verdict.say_values.Goals as goal

pub returns-clause-told : goal.returns-clause-told
returns-clause-told g c =
    c.in_ok-say.ensures.told
    ∙ ap (λ values. with_bytes (line (text_of (verdict_line (said_sat values)))) (g.L.Tape.told c.args.tape.now))
    (c.in_ok-values.ensures
    ∙ ap (map (said_value c.args.words.now c.args.truths.now))
    (ap (map live_in) c.deref.ensures.value ∙ c.in_ok-constants.ensures))
