use Rattle.sb_decide.proofs.Words.{◌<◌, ◌∙◌, [], length, drop, sym, ap, subst, All, All-drop, IfOk-from_err, false≢true, get_or_read, regexes_same, word_at}
use Rattle.sb_decide.proofs.KeptWords.{behind_within, word_stands}
use Rattle.sb_decide.proofs.RootFacts.{places_within}
use Rattle.sb_decide.proofs.standing.stands.Goals as goal

pub returns-in_default : goal.returns-in_default
returns-in_default c = record {
  least = λ stands. absurd (false≢true stands);
  store = regexes_same c.args.store.now;
}

pub returns-in_default-get : goal.returns-in_default-get
returns-in_default-get c = record {
  least = λ stands. absurd (false≢true stands);
  store = regexes_same c.args.store.now;
}

pub places_behind-behind-requires : goal.places_behind-behind-requires
places_behind-behind-requires c =
    behind_within c.args.store.now.arena c.args.members.now c.args.serial.0 c.in-Some.known c.places-places.result.now
    (word_at c.args.words.now c.args.serial.0) (c.places-places.ensures ∙ c.requires.places)
    (c.requires.kept c.in-Some.known (sym c.in-Some.ensures))

pub is_in_each-requires : goal.is_in_each-requires
is_in_each-requires c =
    let all = subst (All (λ place. place < length c.args.members.now))
    (sym (c.places_behind-behind.ensures ∙ ap (drop c.in-Some.known) (c.places-places.ensures ∙ c.requires.places)))
    (All-drop (λ place. place < length c.args.members.now) c.in-Some.known _
    (places_within c.args.serial.0 c.args.members.now)) in
    record { within = all; numbers = c.requires.numbers; store = c.requires.store }

pub returns-in_err-all : goal.returns-in_err-all
returns-in_err-all c =
    let x = c.from_residual in
    record {
      least = IfOk-from_err x.result _ x.ensures.0;
      store = c.is_in_each.ensures.store;
    }

pub returns : goal.returns
returns c =
    let e = c.in_ok-all.ensures in
    let here = c.in-Some-get.ensures.lookup in
    record {
      least = λ all. word_stands c.args.store.now.arena c.is_in_each.new.store.arena c.args.members.now c.args.serial.0
          c.in-Some.known c.places-places.result.now c.places_behind-behind.result.now
          (word_at c.args.words.now c.args.serial.0) c.in-Some-get.word.now e.store.more.extends c.requires.numbers
          (c.places-places.ensures ∙ c.requires.places) c.places_behind-behind.ensures
          (get_or_read c.args.words.now c.args.serial.0 c.in-Some-get.word.now here.3.0 here.1 [])
          (c.requires.kept c.in-Some.known (sym c.in-Some.ensures)) (e.all all);
      store = e.store;
    }
