use Rattle.sb_solve.proofs.Words.{refl, sym, subst, IsFound, Found, all_known, IfOk-from_err, err_from_is_err_and, counts_none, counts_on, CountsTapeFault, state_of, all_among, is_atom}
use Rattle.sb_solve.proofs.Ended.{declared_behind, runs_to}
use Rattle.sb_solve.proofs.searching.run.Goals as goal

pub search-requires-clause-passes : goal.search-requires-clause-passes
search-requires-clause-passes g c =
    let b = c.args.tables.now in
    record {
      clauses = all_known b.strings.atoms b.engine.kept c.requires.known;
      assumed = λ l h.
          all_among (λ m. is_atom b.strings.atoms m.atom) c.args.assumed.now l c.requires.assumed h;
    }

pub values_of-requires : goal.values_of-requires
values_of-requires g c =
    declared_behind (state_of c.args.stack.now).sorts _ _ _ _ c.in_ok-found.ensures.puts c.requires.declared

pub returns-in_err-found : goal.returns-in_err-found
returns-in_err-found g c =
    let x = c.from_residual in
    let p = err_from_is_err_and x.result x.ensures.1 in
    record {
      runs = IfOk-from_err x.result _ x.ensures.0;
      counts = counts_on Found x.result p.0 _ _ _ p.1 p.2 c.in_err-found.ensures.counts;
    }

pub returns-in-Unsat : goal.returns-in-Unsat
returns-in-Unsat g c =
    let h = c.in_ok-found.ensures in
    let y = c.search.new.theory in
    record {
      runs = runs_to c.args.stack.now c.args.assumed.now c.args.tables.now _ y c.search.new.engine
          c.search.new.choices y.words _ _ _ _ _ refl c.search.ensures.wanted c.requires.known
          c.requires.stands h.stands h.kept h.follows_by_level h.puts h.limit h.spends
          (subst (IsFound y.wanted c.args.assumed.now c.search.new.engine c.search.new.budget) c.in-Unsat.is h.found);
      counts = h.counts;
    }

pub returns-in-Spent : goal.returns-in-Spent
returns-in-Spent g c =
    let h = c.in_ok-found.ensures in
    let y = c.search.new.theory in
    record {
      runs = runs_to c.args.stack.now c.args.assumed.now c.args.tables.now _ y c.search.new.engine
          c.search.new.choices y.words _ _ _ _ _ refl c.search.ensures.wanted c.requires.known
          c.requires.stands h.stands h.kept h.follows_by_level h.puts h.limit h.spends
          (subst (IsFound y.wanted c.args.assumed.now c.search.new.engine c.search.new.budget) c.in-Spent.is h.found);
      counts = h.counts;
    }

pub returns-in_ok-values-in-Sat : goal.returns-in_ok-values-in-Sat
returns-in_ok-values-in-Sat g c =
    let h = c.in_ok-found.ensures in
    let y = c.search.new.theory in
    let v = c.in_ok-values-in-Sat.ensures in
    record {
      runs = runs_to c.args.stack.now c.args.assumed.now c.args.tables.now c.values_of.new.tables y
          c.search.new.engine c.search.new.choices _ _ _ _ _ _ v.rest c.search.ensures.wanted c.requires.known
          c.requires.stands h.stands h.kept h.follows_by_level h.puts h.limit h.spends
          (record {
            search = c.search.new.engine;
            theory = y.words.items;
            keeps = refl;
            full = subst (IsFound y.wanted c.args.assumed.now c.search.new.engine c.search.new.budget) c.in-Sat.is
                h.found;
            agrees = h.agrees c.in-Sat.is;
            model = v.model;
          });
      counts = h.counts;
    }

pub returns-in_err-values-in-Sat : goal.returns-in_err-values-in-Sat
returns-in_err-values-in-Sat g c =
    let x = c.from_residual-in_err-values-in-Sat in
    let p = err_from_is_err_and x.result x.ensures.1 in
    record {
      runs = IfOk-from_err x.result _ x.ensures.0;
      counts = subst (λ n. CountsTapeFault x.result (g.L.Tape.faults c.args.tape.now) n)
          (sym c.in_ok-found.ensures.counts) (counts_none x.result p.0 _ p.1 p.2);
    }
