use Rattle.sb_solve.proofs.Words.{subst, IfOk-from_err, IfOk-weaker, err_from_is_err_and, Global, Vec, Lit, Option, grows_both, counts_on, CountsTapeFault, state_of, sym, ◌∙◌, counts_none}
use Rattle.sb_solve.proofs.Answering.{answer, asked_known, declared, levels, limit, puts, settled_declared, settled_levels, settled_puts, settled_sound, sound, spends, stores}
use Rattle.sb_solve.proofs.Goings.{with-ends-known}
use Rattle.sb_solve.proofs.Stated.{gates_under, said_known, said_over, stated_under}
use Rattle.sb_solve.proofs.check.solve.Goals as goal

pub assumed-requires : goal.assumed-requires
assumed-requires g c = record { regexes = c.in_ok-stated.ensures.stated.regexes }

pub settle-requires : goal.settle-requires
settle-requires g c =
    let s = c.args.stack.now in
    let told = g.L.Tape.told c.args.tape.now in
    let between = g.L.Tape.told c.literals.new.tape in
    let mid = g.L.Tape.told c.assumed.new.tape in
    let first = c.in_ok-stated.ensures.stated in
    let assumes = rw c.assumptions.ensures.value at c.in_ok-assumed.ensures.assumes in
    let stated = stated_under c.translation_stays.ensures s c.args.places.now s.assumptions c.args.store.now
    c.literals.new.store c.args.evidence.now c.literals.new.evidence c.assumed.new.evidence told between mid
    c.in_ok-stated.stated.items c.in_ok-assumed.assumed.items c.assumptions.ensures.assumed.sorted first assumes in
    record {
      known = rw (c.deref-2.ensures.value, c.in_ok-asked.ensures, c.deref.ensures.value)
          (asked_known s c.args.places.now c.args.store.now c.literals.new.store c.args.evidence.now
          c.assumed.new.evidence told mid c.in_ok-stated.stated.items c.in_ok-assumed.assumed.items stated
          c.stands.ensures assumes.all);
      store = (first.store.right c.requires.store).regexes;
      regexes = assumes.regexes;
    }

pub search_for-requires : goal.search_for-requires
search_for-requires g c =
    let s = c.args.stack.now in
    let first = c.in_ok-stated.ensures.stated in
    let assumes = rw c.assumptions.ensures.value at c.in_ok-assumed.ensures.assumes in
    let told = g.L.Tape.told c.args.tape.now in
    let between = g.L.Tape.told c.literals.new.tape in
    let mid = g.L.Tape.told c.assumed.new.tape in
    let stated = stated_under c.translation_stays.ensures s c.args.places.now s.assumptions c.args.store.now
    c.literals.new.store c.args.evidence.now c.literals.new.evidence c.assumed.new.evidence told between mid
    c.in_ok-stated.stated.items c.in_ok-assumed.assumed.items c.assumptions.ensures.assumed.sorted first assumes in
    let settled = rw c.in-Some.is at c.in_ok-found.ensures.settles in
    let goes = settled.goes in
    record {
      store = goes.store.right (first.store.right c.requires.store).regexes;
      regexes = goes.regexes;
      declared = goes.declared (state_of s).sorts
          (assumes.declared (state_of s).sorts c.assumptions.ensures.assumed.sorted
          (first.declared c.requires.declared));
      literals = rw (
        c.deref-4.ensures.value,
        c.in_ok-all.ensures,
        c.deref-3.ensures.value,
        c.in_ok-asked.ensures,
        c.deref.ensures.value,
      ) (with-ends-known c.assumed.new.evidence c.settle.new.evidence _ _ goes.atoms
          (asked_known s c.args.places.now c.args.store.now c.literals.new.store c.args.evidence.now
          c.assumed.new.evidence told mid c.in_ok-stated.stated.items c.in_ok-assumed.assumed.items stated
          c.stands.ensures assumes.all) settled.ends);
      assumed = rw c.deref-5.ensures.value
          (said_known c.settle.new.evidence.atoms s.assumptions c.in_ok-assumed.assumed.items
          (said_over c.assumed.new.evidence.atoms c.settle.new.evidence.atoms goes.atoms s.assumptions
          c.in_ok-assumed.assumed.items assumes.all));
    }

pub returns : goal.returns
returns g c =
    let s = c.args.stack.now in
    let told = g.L.Tape.told c.args.tape.now in
    let between = g.L.Tape.told c.literals.new.tape in
    let mid = g.L.Tape.told c.assumed.new.tape in
    let r = c.search_for.result in
    let first = c.in_ok-stated.ensures.stated in
    let assumes = rw c.assumptions.ensures.value at c.in_ok-assumed.ensures.assumes in
    let stated = stated_under c.translation_stays.ensures s c.args.places.now s.assumptions c.args.store.now
    c.literals.new.store c.args.evidence.now c.literals.new.evidence c.assumed.new.evidence told between mid
    c.in_ok-stated.stated.items c.in_ok-assumed.assumed.items c.assumptions.ensures.assumed.sorted first assumes in
    let gates = gates_under s.assumptions c.literals.new.store.arena c.literals.new.evidence c.assumed.new.evidence
    between mid c.in_ok-stated.stated.items c.in_ok-assumed.assumed.items first.gates assumes in
    let all = rw c.in-Some.is at c.in_ok-found.ensures.settles in
    let ok = rw (
      c.deref-4.ensures.value,
      c.deref-5.ensures.value,
      c.in_ok-all.ensures,
      c.deref-3.ensures.value,
      c.in_ok-asked.ensures,
      c.deref.ensures.value,
    ) at c.search_for.ensures.done in
    record {
      puts = IfOk-weaker r _ _
          (λ x done. puts _ _ _ _ _ _ _ _ _ stated _ _ _ _ _ _ _ _ _ _ _ _ _ gates assumes.all all done
          c.requires.declared) ok;
      answer = IfOk-weaker r _ _
          (λ x done. answer _ _ _ _ _ _ _ _ _ stated _ _ _ _ _ _ _ _ _ _ _ _ _ gates assumes.all all done
          c.translation_stays.ensures) ok;
      sound = IfOk-weaker r _ _
          (λ x done. sound _ _ _ _ _ _ _ _ _ stated _ _ _ _ _ _ _ _ _ _ _ _ _ gates assumes.all all done
          c.follows_by_rule.ensures c.line_stays_sound.ensures c.counted_again_stays_sound.ensures) ok;
      levels = IfOk-weaker r _ _
          (λ x done. levels _ _ _ _ _ _ _ _ _ stated _ _ _ _ _ _ _ _ _ _ _ _ _ gates assumes.all all done) ok;
      limit = IfOk-weaker r _ _
          (λ x done. limit _ _ _ _ _ _ _ _ _ stated _ _ _ _ _ _ _ _ _ _ _ _ _ gates assumes.all all done) ok;
      spends = IfOk-weaker r _ _
          (λ x done. spends _ _ _ _ _ _ _ _ _ stated _ _ _ _ _ _ _ _ _ _ _ _ _ gates assumes.all all done) ok;
      store = IfOk-weaker r _ _
          (λ x done. grows_both _ _ _ _ first.store (c.regexes_grow.ensures.alone _ _ _
          (stores _ _ _ _ _ _ _ _ _ stated _ _ _ _ _ _ _ _ _ _ _ _ _ gates assumes.all all done))) ok;
      regexes = IfOk-weaker r _ _ (λ x done. done.searched.regexes) ok;
      declared = IfOk-weaker r _ _
          (λ x done. declared _ _ _ _ _ _ _ _ _ stated _ _ _ _ _ _ _ _ _ _ _ _ _ gates assumes.all all done
          c.requires.declared) ok;
      counts = subst (λ old. CountsTapeFault r old (g.L.Tape.faults c.search_for.new.tape))
          (c.in_ok-found.ensures.counts ∙ c.in_ok-assumed.ensures.counts ∙ c.in_ok-stated.ensures.counts)
          c.search_for.ensures.counts;
    }

pub returns-in_default : goal.returns-in_default
returns-in_default g c =
    let s = c.args.stack.now in
    let told = g.L.Tape.told c.args.tape.now in
    let between = g.L.Tape.told c.literals.new.tape in
    let mid = g.L.Tape.told c.assumed.new.tape in
    let first = c.in_ok-stated.ensures.stated in
    let assumes = rw c.assumptions.ensures.value at c.in_ok-assumed.ensures.assumes in
    let stated = stated_under c.translation_stays.ensures s c.args.places.now s.assumptions c.args.store.now
    c.literals.new.store c.args.evidence.now c.literals.new.evidence c.assumed.new.evidence told between mid
    c.in_ok-stated.stated.items c.in_ok-assumed.assumed.items c.assumptions.ensures.assumed.sorted first assumes in
    let settled = rw c.in_default.is at c.in_ok-found.ensures.settles in
    let goes = settled.0 in
    record {
      puts = settled_puts _ _ _ _ _ _ _ _ _ stated _ _ _ _ _ _ goes;
      answer = settled.1;
      sound = settled_sound _ _ _ _ _ _ _ _ _ stated _ _ _ _ _ _ goes c.follows_by_rule.ensures
          c.line_stays_sound.ensures c.counted_again_stays_sound.ensures;
      levels = settled_levels _ _ _ _ _ _ _ _ _ stated _ _ _ _ _ _ goes;
      limit = goes.limit;
      spends = goes.spends;
      store = grows_both _ _ _ _ first.store (c.regexes_grow.ensures.alone _ _ _ goes.store);
      regexes = goes.regexes;
      declared = settled_declared _ _ _ _ _ _ _ _ _ stated _ _ _ _ _ _ goes c.requires.declared;
      counts = c.in_ok-found.ensures.counts ∙ c.in_ok-assumed.ensures.counts ∙ c.in_ok-stated.ensures.counts;
    }

pub returns-in_err-stated : goal.returns-in_err-stated
returns-in_err-stated g c =
    let x = c.from_residual in
    let p = err_from_is_err_and x.result x.ensures.1 in
    record {
      puts = IfOk-from_err x.result _ x.ensures.0;
      answer = IfOk-from_err x.result _ x.ensures.0;
      sound = IfOk-from_err x.result _ x.ensures.0;
      levels = IfOk-from_err x.result _ x.ensures.0;
      limit = IfOk-from_err x.result _ x.ensures.0;
      spends = IfOk-from_err x.result _ x.ensures.0;
      store = IfOk-from_err x.result _ x.ensures.0;
      regexes = IfOk-from_err x.result _ x.ensures.0;
      declared = IfOk-from_err x.result _ x.ensures.0;
      counts = counts_on (Vec Lit Global) x.result p.0 _ _ _ p.1 p.2 c.in_err-stated.ensures.counts;
    }

pub returns-in_err-assumed : goal.returns-in_err-assumed
returns-in_err-assumed g c =
    let x = c.from_residual-in_err-assumed in
    let p = err_from_is_err_and x.result x.ensures.1 in
    record {
      puts = IfOk-from_err x.result _ x.ensures.0;
      answer = IfOk-from_err x.result _ x.ensures.0;
      sound = IfOk-from_err x.result _ x.ensures.0;
      levels = IfOk-from_err x.result _ x.ensures.0;
      limit = IfOk-from_err x.result _ x.ensures.0;
      spends = IfOk-from_err x.result _ x.ensures.0;
      store = IfOk-from_err x.result _ x.ensures.0;
      regexes = IfOk-from_err x.result _ x.ensures.0;
      declared = IfOk-from_err x.result _ x.ensures.0;
      counts = subst (λ n. CountsTapeFault x.result n (g.L.Tape.faults c.assumed.new.tape))
          c.in_ok-stated.ensures.counts
          (counts_on (Vec Lit Global) x.result p.0 _ _ _ p.1 p.2 c.in_err-assumed.ensures.counts);
    }

pub returns-in_err-asked : goal.returns-in_err-asked
returns-in_err-asked g c =
    let x = c.from_residual-in_err-asked in
    let p = err_from_is_err_and x.result x.ensures.1 in
    record {
      puts = IfOk-from_err x.result _ x.ensures.0;
      answer = IfOk-from_err x.result _ x.ensures.0;
      sound = IfOk-from_err x.result _ x.ensures.0;
      levels = IfOk-from_err x.result _ x.ensures.0;
      limit = IfOk-from_err x.result _ x.ensures.0;
      spends = IfOk-from_err x.result _ x.ensures.0;
      store = IfOk-from_err x.result _ x.ensures.0;
      regexes = IfOk-from_err x.result _ x.ensures.0;
      declared = IfOk-from_err x.result _ x.ensures.0;
      counts = subst (λ n. CountsTapeFault x.result (g.L.Tape.faults c.args.tape.now) n)
          (sym (c.in_ok-assumed.ensures.counts ∙ c.in_ok-stated.ensures.counts))
          (counts_none x.result p.0 _ p.1 p.2);
    }

pub returns-in_err-found : goal.returns-in_err-found
returns-in_err-found g c =
    let x = c.from_residual-in_err-found in
    let p = err_from_is_err_and x.result x.ensures.1 in
    record {
      puts = IfOk-from_err x.result _ x.ensures.0;
      answer = IfOk-from_err x.result _ x.ensures.0;
      sound = IfOk-from_err x.result _ x.ensures.0;
      levels = IfOk-from_err x.result _ x.ensures.0;
      limit = IfOk-from_err x.result _ x.ensures.0;
      spends = IfOk-from_err x.result _ x.ensures.0;
      store = IfOk-from_err x.result _ x.ensures.0;
      regexes = IfOk-from_err x.result _ x.ensures.0;
      declared = IfOk-from_err x.result _ x.ensures.0;
      counts = subst (λ n. CountsTapeFault x.result n (g.L.Tape.faults c.settle.new.tape))
          (c.in_ok-assumed.ensures.counts ∙ c.in_ok-stated.ensures.counts)
          (counts_on (Option (Vec Lit Global)) x.result p.0 _ _ _ p.1 p.2 c.in_err-found.ensures.counts);
    }

pub returns-in_err-all : goal.returns-in_err-all
returns-in_err-all g c =
    let x = c.from_residual-in_err-all in
    let p = err_from_is_err_and x.result x.ensures.1 in
    record {
      puts = IfOk-from_err x.result _ x.ensures.0;
      answer = IfOk-from_err x.result _ x.ensures.0;
      sound = IfOk-from_err x.result _ x.ensures.0;
      levels = IfOk-from_err x.result _ x.ensures.0;
      limit = IfOk-from_err x.result _ x.ensures.0;
      spends = IfOk-from_err x.result _ x.ensures.0;
      store = IfOk-from_err x.result _ x.ensures.0;
      regexes = IfOk-from_err x.result _ x.ensures.0;
      declared = IfOk-from_err x.result _ x.ensures.0;
      counts = subst (λ n. CountsTapeFault x.result (g.L.Tape.faults c.args.tape.now) n)
          (sym (c.in_ok-found.ensures.counts ∙ c.in_ok-assumed.ensures.counts ∙ c.in_ok-stated.ensures.counts))
          (counts_none x.result p.0 _ p.1 p.2);
    }
