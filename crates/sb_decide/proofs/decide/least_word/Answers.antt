use Rattle.sb_decide.proofs.Words.{refl, IfOk-from_err, language, regex_at, words_in}
use Rattle.sb_decide.proofs.Conjunctions.{same_least, same_no_word}
use Rattle.sb_decide.proofs.TakingOver.{root_words, searches_asked}
use Rattle.sb_decide.proofs.decide.least_word.Goals as goal

pub least_word-requires : goal.least_word-requires
least_word-requires c =
    let e = c.in_ok-root.ensures in
    let store = c.args.store.now in
    record {
      known = e.root.known;
      graph = ((c.regexes_grow.ensures.arena store (record store { arena = c.root_of.new.arena }) e.extends refl).right
          c.requires.store).graph;
    }

pub returns-in_err-root : goal.returns-in_err-root
returns-in_err-root c =
    let x = c.from_residual in
    let e = c.root_of.ensures in
    record {
      found = IfOk-from_err x.result _ x.ensures.0;
      searches = record { store = c.regexes_grow.ensures.arena _ _ e.extends refl; rooted = e.rooted };
    }

pub returns-in_err-word : goal.returns-in_err-word
returns-in_err-word c =
    let x = c.from_residual-in_err-word in
    let e = c.root_of.ensures in
    let asked = c.least_word.ensures in
    record {
      found = IfOk-from_err x.result _ x.ensures.0;
      searches = searches_asked c.regexes_grow.ensures.arena c.args.store.now e.extends e.rooted asked.extends
          asked.graph asked.derivatives_stay asked.marks_stay;
    }

pub returns-in-Alive : goal.returns-in-Alive
returns-in-Alive c =
    let e = c.in_ok-root.ensures in
    let asked = c.in_ok-word.ensures in
    record {
      found = same_least (language (regex_at c.root_of.new.arena c.in_ok-root.root))
          (words_in c.least_word.new.arena c.args.members.now c.args.serial.0) c.in-Alive.word
          (root_words c.root_of.new.arena c.least_word.new.arena c.args.members.now c.args.serial.0 c.in_ok-root.root
          e.root asked.extends e.rooted.numbers) (rw c.in-Alive.is at asked.found);
      searches = searches_asked c.regexes_grow.ensures.arena c.args.store.now e.extends e.rooted asked.extends
          asked.graph asked.derivatives_stay asked.marks_stay;
    }

pub returns-in-Dead : goal.returns-in-Dead
returns-in-Dead c =
    let e = c.in_ok-root.ensures in
    let asked = c.in_ok-word.ensures in
    record {
      found = same_no_word (language (regex_at c.root_of.new.arena c.in_ok-root.root))
          (words_in c.least_word.new.arena c.args.members.now c.args.serial.0)
          (root_words c.root_of.new.arena c.least_word.new.arena c.args.members.now c.args.serial.0 c.in_ok-root.root
          e.root asked.extends e.rooted.numbers) (rw c.in-Dead.is at asked.found);
      searches = searches_asked c.regexes_grow.ensures.arena c.args.store.now e.extends e.rooted asked.extends
          asked.graph asked.derivatives_stay asked.marks_stay;
    }
