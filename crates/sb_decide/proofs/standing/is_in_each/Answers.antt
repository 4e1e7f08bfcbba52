use Rattle.sb_decide.proofs.Words.{IfOk-from_err, false≢true, number_kept, regexes_both, regexes_same, sym, take_all, ◌∙◌}
use Rattle.sb_decide.proofs.KeptWords.{matched_none, matched_next, number_there}
use Rattle.sb_store.proofs.CallerLemmas.{walked}
use Rattle.sb_decide.proofs.standing.is_in_each.Goals as goal

pub loop-place-init : goal.loop-place-init
loop-place-init c = (
  matched_none c.args.store.now.arena c.args.members.now c.args.word.now,
  regexes_same c.args.store.now,
)

pub bounds-members-place : goal.bounds-members-place
bounds-members-place c = c.requires.within c.loop-place.place-index _ c.loop-place-test.true

pub returns-in_default : goal.returns-in_default
returns-in_default c = record { all = λ all. absurd (false≢true all); store = c.loop-place.invariant.1 }

pub matches-requires : goal.matches-requires
matches-requires c =
    let grows = c.loop-place.invariant.1 in
    let within = c.requires.within c.loop-place.place-index _ c.loop-place-test.true in
    let low = number_there c.args.store.now.arena c.args.members.now _ _ c.in-Some.member c.requires.numbers within
    c.in-Some.is in
    record { known = number_kept _ _ _ grows.more.extends low; right = (grows.right c.requires.store).plain }

pub returns-in_err-matches : goal.returns-in_err-matches
returns-in_err-matches c =
    let x = c.from_residual in
    let e = c.matches.ensures in
    record {
      all = IfOk-from_err x.result _ x.ensures.0;
      store = regexes_both _ _ _ c.loop-place.invariant.1
          (walked c.regexes_grow.ensures.arena c.loop-place.store _ _ e.extends e.right);
    }

pub returns-then-not-branch : goal.returns-then-not-branch
returns-then-not-branch c =
    let e = c.in_ok-matches.ensures in
    record {
      all = λ all. absurd (false≢true all);
      store = regexes_both _ _ _ c.loop-place.invariant.1
          (walked c.regexes_grow.ensures.arena c.loop-place.store _ _ e.extends e.right);
    }

pub loop-place-preserved : goal.loop-place-preserved
loop-place-preserved c =
    let e = c.in_ok-matches.ensures in
    let grows = c.loop-place.invariant.1 in
    let within = c.requires.within c.loop-place.place-index _ c.loop-place-test.true in
    let low = number_there c.args.store.now.arena c.args.members.now _ _ c.in-Some.member c.requires.numbers within
    c.in-Some.is in (
      matched_next c.loop-place.store.arena c.matches.new.arena c.args.members.now c.args.places.now c.args.word.now
          c.loop-place.place-index _ _ c.in-Some.member e.extends c.loop-place.invariant.0 c.loop-place-test.true within
          c.in-Some.is (number_kept _ _ _ grows.more.extends low) (sym (sym c.if-not-branch.false ∙ e.ok)),
      regexes_both _ _ _ grows (walked c.regexes_grow.ensures.arena c.loop-place.store _ _ e.extends e.right),
    )

pub returns : goal.returns
returns c = record {
  all = λ _. rw (take_all c.loop-place.place-index c.args.places.now c.loop-place-test.false)
      at c.loop-place.invariant.0;
  store = c.loop-place.invariant.1;
}
