use Rattle.sb_theory.proofs.Words.{arith, refl, regexes_same, wanted_on, writes_still}
use Rattle.sb_theory.proofs.Fitting.{rows_cut}
use Rattle.sb_theory.proofs.Moving.{keeps_grown, left_kept}
use Rattle.sb_theory.proofs.Rows.{wanted_front}
use Rattle.sb_theory.proofs.Standing.{stands_cut}
use Rattle.sb_theory.proofs.strings.StringsTheory.backtrack.Goals as goal

pub returns-clause-stands : goal.returns-clause-stands
returns-clause-stands c = λ entries h.
    let x = c.args.self.now in
    let cut = c.cut.ensures.taken h.levelled in
    stands_cut c.args.level cut
    (record {
      store = h.holds.store;
      regexes = h.holds.regexes;
      formed = h.holds.formed;
      noted = h.holds.noted;
      among = h.holds.among;
      joined = h.holds.joined;
      left = λ a noted joined. left_kept (keeps_grown h.holds (regexes_same x.store) refl refl) a (h.holds.left a noted
          joined);
      rows = rows_cut c.cut.new.rows.items (wanted_on x.noted c.cut.new.taken.items) (wanted_on x.noted cut.more)
          (wanted_front x.noted x.taken.items c.cut.new.taken.items cut.more cut.front)
          (c.cut.ensures.members h.holds.rows.members) h.holds.rows;
    }) h

pub returns-clause-puts : goal.returns-clause-puts
returns-clause-puts c = λ proof.
    writes_still c.args.self.now _ proof refl refl refl (regexes_same c.args.self.now.store)

pub returns-clause-falls : goal.returns-clause-falls
returns-clause-falls c = λ kept entries. omega arith
