use Rattle.sb_theory.proofs.Words.{refl, regexes_same, IfOk-from_err, on_ok_weaker}
use Rattle.sb_theory.proofs.Fitting.{rows_given}
use Rattle.sb_theory.proofs.Moving.{keeps_grown, left_kept}
use Rattle.sb_theory.proofs.strings.Strings.give.Goals as goal

pub returns-in_err-add : goal.returns-in_err-add
returns-in_err-add c =
    let r = c.from_residual in
    record {
      holds = IfOk-from_err r.result _ r.ensures.0;
      taken = refl;
      keeps = keeps_grown c.requires (regexes_same c.args.self.now.store) refl refl;
    }

pub returns-in_err-put_number : goal.returns-in_err-put_number
returns-in_err-put_number c =
    let r = c.from_residual-in_err-put_number in
    record {
      holds = IfOk-from_err r.result _ r.ensures.0;
      taken = refl;
      keeps = keeps_grown c.requires (regexes_same c.args.self.now.store) refl refl;
    }

pub returns : goal.returns
returns c =
    let x = c.args.self.now in
    let h = c.requires in
    let keeps = keeps_grown h (regexes_same x.store) refl refl in
    record {
      holds = on_ok_weaker c.put_word.result
          (λ put. record {
            store = h.store;
            regexes = h.regexes;
            formed = h.formed;
            noted = h.noted;
            among = h.among;
            rows = rows_given c.put_word.new.words.items c.put_number.new.numbers.items c.add.new.self c.args.serial.0
                c.args.word put c.in_ok-put_number.ensures c.in_ok-add.ensures h.rows;
            joined = h.joined;
            left = λ a noted joined. left_kept keeps a (h.left a noted joined);
          }) c.put_word.ensures;
      taken = refl;
      keeps = keeps;
    }
