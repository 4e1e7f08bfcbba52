use Rattle.sb_decide.proofs.Words.{refl, sym, ◌∙◌, false≢true, grows_both, grows_same}
use Rattle.sb_decide.proofs.Knowledge.{knows_dead}
use Rattle.sb_decide.proofs.TakingOver.{knows_searched, ready_searched}
use Rattle.sb_decide.proofs.decide.Decider.find_words.Goals as goal

pub set_aside-requires : goal.set_aside-requires
set_aside-requires c = record { knows = c.requires.knows; all = c.requires.all }

pub least_words-requires : goal.least_words-requires
least_words-requires c =
    let knows = c.in_ok-set_aside.ensures.knows in
    let taken = knows.taken in
    record {
      rooted = rw c.deref.ensures.value taken.rooted;
      places = rw (c.deref.ensures.value, c.deref-2.ensures.value) taken.counted.places;
      listed = rw (c.deref-2.ensures.value, c.deref-3.ensures.value) taken.counted.listed;
      kept = rw (c.deref.ensures.value, c.deref-2.ensures.value, c.words.ensures) knows.words;
      store = taken.store.regexes;
    }

pub returns-then-is_some : goal.returns-then-is_some
returns-then-is_some c = record {
  knows = c.requires.knows;
  all = c.requires.all;
  ready = λ t. absurd (false≢true t);
  dead = λ _. sym c.is_some.ensures ∙ c.if-is_some.true;
  store = grows_same c.args.stack.now.table c.args.self.now.store;
}

pub returns-in-Dead : goal.returns-in-Dead
returns-in-Dead c =
    let aside = c.in_ok-set_aside.ensures in
    let e = c.in_ok-serial.ensures in
    let s = rw c.deref.ensures.value at e.searches in
    let alone = c.regexes_grow.ensures.alone in
    record {
      knows = knows_dead _ c.in-Dead.serial c.args.stack.now (rw (c.in-Dead.is, c.deref.ensures.value) at e.words)
          (knows_searched alone c.set_aside.new.self c.least_words.new.store c.least_words.new.roots
          c.set_aside.new.self.found c.args.stack.now aside.knows s);
      all = aside.all;
      ready = λ t. absurd (false≢true t);
      dead = λ _. refl;
      store = grows_both _ _ _ _ aside.store (alone _ _ _ s.store);
    }

pub returns-in-Found : goal.returns-in-Found
returns-in-Found c =
    let aside = c.in_ok-set_aside.ensures in
    let e = c.in_ok-serial.ensures in
    let s = rw c.deref.ensures.value at e.searches in
    let alone = c.regexes_grow.ensures.alone in
    record {
      knows = knows_searched alone c.set_aside.new.self c.least_words.new.store c.least_words.new.roots
          c.in-Found.found c.args.stack.now aside.knows s;
      all = aside.all;
      ready = λ _. ready_searched alone c.set_aside.new.self c.least_words.new.store c.least_words.new.roots
          c.in-Found.found c.args.stack.now aside.knows aside.all c.requires.named s aside.spoken aside.left
          (rw (c.in-Found.is, c.deref.ensures.value, c.deref-2.ensures.value, c.words.ensures, c.deref-3.ensures.value)
          at e.words);
      dead = λ t. absurd (false≢true (sym t));
      store = grows_both _ _ _ _ aside.store (alone _ _ _ s.store);
    }
