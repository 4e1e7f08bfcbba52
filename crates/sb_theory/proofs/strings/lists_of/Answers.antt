use Rattle.sb_theory.proofs.Words.{◌∙◌, List, ap, filter, ℕ, IfOk-from_err, is_joined}
use Rattle.sb_theory.proofs.strings.lists_of.Goals as goal

pub returns-in_err-joined : goal.returns-in_err-joined
returns-in_err-joined c =
    let x = c.from_residual in
    record { noted = IfOk-from_err x.result _ x.ensures.0; joined = IfOk-from_err x.result _ x.ensures.0 }

pub returns-in_err-noted : goal.returns-in_err-noted
returns-in_err-noted c =
    let x = c.from_residual-in_err-noted in
    record { noted = IfOk-from_err x.result _ x.ensures.0; joined = IfOk-from_err x.result _ x.ensures.0 }

pub returns : goal.returns
returns c = record {
  noted = c.in_ok-noted.ensures;
  joined = c.in_ok-joined.ensures ∙ ap (λ (ns : List ℕ). filter (is_joined c.args.atoms.now) ns) c.atoms.ensures;
}
