use Rattle.sb_refute.proofs.Words.{ℕ, length, refl, IfOk-from_err, err_from_is_err_and, counts_on}
use Rattle.sb_refute.proofs.OneAtom.{bool-alone}
use Rattle.sb_refute.proofs.evidence.Evidence.assume.Goals as goal

pub alone-requires : goal.alone-requires
alone-requires g c = record {
  alone = bool-alone (length c.args.arena.now) c.args.serial.0;
  regexes = c.requires.regexes;
}

pub returns : goal.returns
returns g c =
    let h = c.in_ok-atom.ensures.is in
    record {
      puts = λ asked memo before b declared. h.puts asked memo (λ others. declared) before b;
      literal = (h.names, refl);
      asserted = h.asserted;
      gates = h.gates;
      grows = h.grows;
      extends = h.extends;
      regexes = h.regexes;
      counts = c.in_ok-atom.ensures.counts;
    }

pub returns-in_err-atom : goal.returns-in_err-atom
returns-in_err-atom g c =
    let x = c.from_residual in
    let p = err_from_is_err_and x.result x.ensures.1 in
    record {
      puts = IfOk-from_err x.result _ x.ensures.0;
      literal = IfOk-from_err x.result _ x.ensures.0;
      asserted = IfOk-from_err x.result _ x.ensures.0;
      gates = IfOk-from_err x.result _ x.ensures.0;
      grows = IfOk-from_err x.result _ x.ensures.0;
      extends = IfOk-from_err x.result _ x.ensures.0;
      regexes = IfOk-from_err x.result _ x.ensures.0;
      counts = counts_on ℕ x.result p.0 _ _ _ p.1 p.2 c.in_err-atom.ensures.counts;
    }
