use Rattle.sb_solve.proofs.Words.{◌≡◌, List, [], ℕ, length, true, sym, subst, IfOk-from_err, err_from_is_err_and, has_room_for, AtomOver, Backing, counts_none, AreAmong, AreWanted, are_declared, earlier_table, state_of, are_atoms}
use Rattle.sb_solve.proofs.Ended.{done, room_left, stand_left}
use Rattle.sb_solve.proofs.searching.search_for.Goals as goal

pub taken-requires : goal.taken-requires
taken-requires g c =
    let among = subst (λ (ts : List (AtomOver ℕ)). AreAmong ts c.args.literals.now c.in_ok-wanted.wanted)
    c.atoms.ensures c.in_ok-wanted.ensures.among in
    record {
      store = c.requires.store;
      regexes = c.requires.regexes;
      wanted = among [] (earlier_table [] c.args.evidence.now.atoms c.stands.ensures.earlier) c.requires.literals;
    }

pub run-requires : goal.run-requires
run-requires g c =
    let t = c.in_ok-tables.ensures in
    record {
      stands = t.stands;
      trail = t.trail;
      known = subst (λ (e : Backing). has_room_for (length e.atoms) e.kept ≡ true) (sym t.backing) t.stand.known;
      declared = subst (λ (e : Backing). are_declared (state_of c.args.stack.now).sorts e.atoms ≡ true) (sym t.backing)
          c.requires.declared;
      assumed = subst (λ (e : Backing). are_atoms e.atoms c.args.assumed.now ≡ true) (sym t.backing)
          c.requires.assumed;
    }

pub put_back-requires : goal.put_back-requires
put_back-requires g c = record {
  known = room_left _ _ _ _ _ _ _ _ _ _ _ _ _ c.in_ok-tables.ensures c.in-Ok.ensures.runs;
  stands = stand_left _ _ _ _ _ _ _ _ _ _ _ _ _ c.in_ok-tables.ensures c.in-Ok.ensures.runs;
}

pub returns-in-Ok : goal.returns-in-Ok
returns-in-Ok g c =
    let w = c.in_ok-wanted.ensures in
    let literals = c.args.literals.now in
    let among = subst (λ (ts : List (AtomOver ℕ)). AreAmong ts literals c.in_ok-wanted.wanted) c.atoms.ensures
    w.among in
    record {
      done = rw c.put_back.ensures.store
          (done _ _ _ _ _ _ _ _ _ _ _ _ _ c.in_ok-tables.ensures c.in-Ok.ensures.runs literals _ c.each_once.ensures
          (subst (λ (ts : List (AtomOver ℕ)). AreWanted ts literals c.in_ok-wanted.wanted) c.atoms.ensures w.wanted)
          (among [] (earlier_table [] c.args.evidence.now.atoms c.stands.ensures.earlier) c.requires.literals)
          c.put_back.ensures.evidence);
      counts = c.in-Ok.ensures.counts;
    }

pub returns-in_err-wanted : goal.returns-in_err-wanted
returns-in_err-wanted g c =
    let x = c.from_residual in
    let p = err_from_is_err_and x.result x.ensures.1 in
    record { done = IfOk-from_err x.result _ x.ensures.0; counts = counts_none x.result p.0 _ p.1 p.2 }

pub returns-in_err-tables : goal.returns-in_err-tables
returns-in_err-tables g c =
    let x = c.from_residual-in_err-tables in
    let p = err_from_is_err_and x.result x.ensures.1 in
    record { done = IfOk-from_err x.result _ x.ensures.0; counts = counts_none x.result p.0 _ p.1 p.2 }
