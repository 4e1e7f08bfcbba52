use Rattle.sb_solve.proofs.Words.{length, ap, subst, ◌∙◌, Backing, Stand}
use Rattle.sb_solve.proofs.searching.taken.Goals as goal

pub new-requires-3 : goal.new-requires-3
new-requires-3 c =
    let is = c.into_parts-trace.ensures.backing ∙ c.replace.ensures.value in
    let same = ap (λ (e : Backing). e.atoms) is in
    record {
      store = rw c.replace-store.ensures.value c.requires.store;
      regexes = rw (c.replace-store.ensures.value, same) c.requires.regexes;
      formed = c.into_parts-trace.ensures.stands.formed;
      wanted = rw same c.requires.wanted;
    }

pub returns-in-Ok : goal.returns-in-Ok
returns-in-Ok c =
    let is = c.into_parts-trace.ensures.backing ∙ c.replace.ensures.value in
    let s = c.in-Ok.ensures in
    record {
      stands = s.stands;
      stand = subst Stand is c.into_parts-trace.ensures.stands;
      backing = rw (s.trace, s.atoms) is;
      store = s.store ∙ c.replace-store.ensures.value;
      wanted = s.wanted;
      proves = s.proves;
      trail = c.into_parts-trace.ensures.trail;
      first = c.len-before.ensures ∙ ap length c.clauses.ensures ∙ ap (λ (e : Backing). length e.kept) is;
    }
