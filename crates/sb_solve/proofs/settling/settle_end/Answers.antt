use Rattle.sb_solve.proofs.Words.{[], List, length, refl, sym, ap, subst, ◌∙◌, slice_get_within, HaveRegexesBelow, IfOk-weaker, Regex, in_atom, of_sign, regex_at}
use Rattle.sb_lang.specs.Derivative.{nullable}
use Rattle.sb_solve.proofs.Goings.{end-steps, one-known}
use Rattle.sb_solve.proofs.settling.settle_end.Goals as goal

pub nullable-positive-requires : goal.nullable-positive-requires
nullable-positive-requires g c = c.requires.regexes c.args.atom (in_atom [] c.args.regex) c.requires.names

pub step-requires : goal.step-requires
step-requires g c = record {
  known = one-known (length c.args.evidence.now.atoms) (of_sign c.nullable-positive.result c.args.atom)
      (slice_get_within c.args.evidence.now.atoms c.args.atom (in_atom [] c.args.regex) c.requires.names);
  ascends = refl;
  some = λ none. Prim.cc (none);
}

pub returns : goal.returns
returns g c = record {
  steps = IfOk-weaker c.step.result _ _
      (λ done h x same.
      end-steps c.steps_are_exact.ensures c.steps_hold.ensures c.args.proves x
      c.args.evidence.now c.step.new.self c.args.budget.now c.step.new.budget (g.L.Tape.told c.args.tape.now)
      (g.L.Tape.told c.step.new.tape) c.args.atom c.args.regex c.nullable-positive.result done
      (subst (λ (rs : List Regex). HaveRegexesBelow (length rs) c.args.evidence.now.atoms) (sym same)
      c.requires.regexes) c.requires.names
      (ap (λ (rs : List Regex). nullable (regex_at rs c.args.regex)) same ∙ sym c.nullable-positive.ensures) h)
      c.step.ensures.steps;
  counts = c.step.ensures.counts;
}
