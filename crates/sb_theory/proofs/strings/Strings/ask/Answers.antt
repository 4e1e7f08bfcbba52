use Rattle.sb_theory.proofs.Words.{◌∙◌, List, ap, arith, refl, subst, take, AreClashing, IfOk-from_err, Lit, asked_by_all, false≢true, language, number_at, regexes_kept, row_at, true≢false, wanted_on, IsFinding, Explored}
use Rattle.sb_theory.proofs.Fitting.{rises_set, rows_grown, rows_put}
use Rattle.sb_theory.proofs.Moving.{holds_kept, left_kept, looks_grown, store_explored}
use Rattle.sb_theory.proofs.Rows.{front_about, put_at}
use Rattle.sb_theory.proofs.strings.Strings.ask.Goals as goal

pub least_word-requires : goal.least_word-requires
least_word-requires c =
    let x = c.args.self.now in
    let h = c.requires.holds in
    record {
      about = front_about x.atoms c.args.serial.0 c.args.long x.members.items c.deref.result.now
          (wanted_on x.noted x.taken.items) c.front_of.result.now c.deref.ensures.value c.front_of.ensures
          h.rows.members;
      regexes = h.regexes;
      graph = h.store.graph;
    }

pub returns-in_err-explored : goal.returns-in_err-explored
returns-in_err-explored c =
    let r = c.from_residual in
    record {
      ok = IfOk-from_err r.result _ r.ensures.0;
      looks = looks_grown c.requires.holds
          (store_explored c.regexes_grow.ensures.arena _ _ _ c.in_err-explored.ensures.explores) refl refl refl;
    }

pub returns-in_err-put_word-in-Alive : goal.returns-in_err-put_word-in-Alive
returns-in_err-put_word-in-Alive c =
    let r = c.from_residual-in_err-put_word-in-Alive in
    record {
      ok = IfOk-from_err r.result _ r.ensures.0;
      looks = looks_grown c.requires.holds
          (store_explored c.regexes_grow.ensures.arena _ _ _ c.in_ok-explored.ensures.explores) refl refl refl;
    }

pub returns-in_err-put_number-in-Alive : goal.returns-in_err-put_number-in-Alive
returns-in_err-put_number-in-Alive c =
    let r = c.from_residual-in_err-put_number-in-Alive in
    record {
      ok = IfOk-from_err r.result _ r.ensures.0;
      looks = looks_grown c.requires.holds
          (store_explored c.regexes_grow.ensures.arena _ _ _ c.in_ok-explored.ensures.explores) refl refl refl;
    }

pub returns-in_ok-put_number-in-Alive : goal.returns-in_ok-put_number-in-Alive
returns-in_ok-put_number-in-Alive c =
    let x = c.args.self.now in
    let h = c.requires.holds in
    let n = c.args.serial.0 in
    let e = c.in_ok-explored.ensures in
    let rs = c.least_word.new.arena in
    let grows = store_explored c.regexes_grow.ensures.arena x.store rs c.least_word.new.graph e.explores in
    let set = c.in_ok-put_number-in-Alive.ensures in
    let looks = looks_grown h grows refl refl refl in
    let row = c.front_of.ensures
    ∙ ap (λ (rows : List (List Lit)). take c.args.long (row_at rows n)) c.deref.ensures.value in
    let found = (subst (λ (w : Explored). IsFinding (language (asked_by_all rs x.atoms c.front_of.result.now)) w)
    c.in-Alive.is e.found).member in
    record {
      ok = record {
        holds = record {
          store = grows.right h.store;
          regexes = regexes_kept x.store.arena rs x.atoms grows.more.extends h.regexes;
          formed = h.formed;
          noted = h.noted;
          among = h.among;
          joined = h.joined;
          left = λ a noted joined. left_kept looks.keeps a (h.left a noted joined);
          rows = rows_put c.mkand_keeps_language.ensures c.mknot_keeps_language.ensures c.put_word.new.words.items
              c.put_number.new.numbers.items c.front_of.result.now n c.args.long c.in-Alive.word
              c.in_ok-put_word-in-Alive.ensures set c.requires.more c.requires.within row found
              (rows_grown grows.more.extends h.regexes h.rows);
        };
        fits = λ alive. put_at (number_at c.put_number.new.numbers.items) (number_at x.fitting.items) (λ y. c.args.long) n
            set;
        clash = λ dead. absurd (true≢false dead);
        rises = rises_set x.fitting.items c.put_number.new.numbers.items n c.args.long set
            (omega (arith, c.requires.more));
      };
      looks = looks;
    }

pub returns-in-Dead : goal.returns-in-Dead
returns-in-Dead c =
    let x = c.args.self.now in
    let h = c.requires.holds in
    let e = c.in_ok-explored.ensures in
    let rs = c.least_word.new.arena in
    let grows = store_explored c.regexes_grow.ensures.arena x.store rs c.least_word.new.graph e.explores in
    record {
      ok = record {
        holds = holds_kept grows refl h;
        fits = λ alive. absurd (false≢true alive);
        clash = λ dead. subst (λ (ls : List Lit). AreClashing rs x.atoms ls)
            (c.front_of.ensures
            ∙ ap (λ (rows : List (List Lit)). take c.args.long (row_at rows c.args.serial.0)) c.deref.ensures.value)
            (subst (λ (w : Explored). IsFinding (language (asked_by_all rs x.atoms c.front_of.result.now)) w)
            c.in-Dead.is e.found);
        rises = λ y. omega arith;
      };
      looks = looks_grown h grows refl refl refl;
    }
