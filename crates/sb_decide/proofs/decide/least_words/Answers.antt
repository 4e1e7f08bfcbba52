use Rattle.sb_decide.proofs.Words.{map, ap, arith, length, Found, IfOk-from_err, regexes_same, take_all}
use Rattle.sb_decide.proofs.TakingOver.{found_next, kept_listed, places_listed, searches_behind}
use Rattle.sb_decide.proofs.decide.least_words.Goals as goal

pub loop-serial-init : goal.loop-serial-init
loop-serial-init c = (
  record {
    each = λ k d l. absurd (omega (arith, l, ap length c.new-found.ensures.items));
    serials = ap (map (λ (f : Found). f.serial)) c.new-found.ensures.items;
  },
  record { store = regexes_same c.args.store.now; rooted = c.requires.rooted },
)

pub find_word-requires : goal.find_word-requires
find_word-requires c =
    let s = c.loop-serial.invariant.1 in
    record {
      rooted = s.rooted;
      places = places_listed c.args.members.now c.args.constants.now c.args.changed.now c.loop-serial.serial-index _
          c.index-constants-place.result c.requires.places c.requires.listed c.loop-serial-test.true
          c.index-constants-place.is;
      kept = kept_listed c.args.store.now.arena c.loop-serial.store.arena c.args.members.now c.args.constants.now
          c.args.words.now c.args.changed.now c.loop-serial.serial-index _ c.index-constants-place.result
          s.store.more.extends c.requires.rooted.numbers c.requires.kept c.requires.listed c.loop-serial-test.true
          c.index-constants-place.is;
      store = s.store.right c.requires.store;
    }

pub loop-serial-preserved : goal.loop-serial-preserved
loop-serial-preserved c =
    let before = c.loop-serial.invariant in
    let e = c.in_ok-one.ensures in (
      found_next c.loop-serial.store.arena c.find_word.new.store.arena c.args.members.now c.args.constants.now
          c.args.words.now c.args.changed.now c.loop-serial.serial-index _ c.loop-serial.found.items
          c.push.new.self.items c.in-Some.one before.0 e.searches.store.more.extends before.1.rooted.numbers
          c.loop-serial-test.true c.requires.listed (rw c.in-Some.is at e.found) c.in_ok-push.ensures.items,
      searches_behind before.1.store e.searches,
    )

pub returns-in_err-one : goal.returns-in_err-one
returns-in_err-one c =
    let x = c.from_residual in
    record {
      words = IfOk-from_err x.result _ x.ensures.0;
      searches = searches_behind c.loop-serial.invariant.1.store c.find_word.ensures.searches;
    }

pub returns-in_err-push : goal.returns-in_err-push
returns-in_err-push c =
    let x = c.from_residual-in_err-push in
    record {
      words = IfOk-from_err x.result _ x.ensures.0;
      searches = searches_behind c.loop-serial.invariant.1.store c.find_word.ensures.searches;
    }

pub returns-in_default : goal.returns-in_default
returns-in_default c =
    let e = c.in_ok-one.ensures in
    record {
      words = rw c.in_default.is at e.found;
      searches = searches_behind c.loop-serial.invariant.1.store e.searches;
    }

pub returns : goal.returns
returns c = record {
  words = rw (take_all c.loop-serial.serial-index c.args.changed.now c.loop-serial-test.false)
      at c.loop-serial.invariant.0;
  searches = c.loop-serial.invariant.1;
}
