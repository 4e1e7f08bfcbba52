use Rattle.sb_decide.proofs.Words.{◌∙◌, IfOk-from_err}
use Rattle.sb_decide.proofs.TakingOver.{knows_inside, live_as}
use Rattle.sb_store.proofs.CallerLemmas.{measured}
use Rattle.sb_decide.proofs.decide.Decider.is_inside.Goals as goal

pub stand-requires : goal.stand-requires
stand-requires c = record {
  known = rw (c.table.ensures, c.assertions.ensures.value) c.requires.inside;
  numbers = rw (c.table.ensures, c.assertions.ensures.value) c.assertions.ensures.numbers;
  right = rw c.table.ensures c.requires.taken.store.measures;
}

pub returns-in_err-standing : goal.returns-in_err-standing
returns-in_err-standing c = IfOk-from_err c.from_residual.result _ c.from_residual.ensures.0

pub returns-in-Inside : goal.returns-in-Inside
returns-in-Inside c =
    let kept = c.args.self.now in
    let stack = c.args.stack.now in
    let ts = c.table.result.now in
    let xs = c.assertions.result.now in
    let e = c.in_ok-standing.ensures in
    let grows = measured stack.table kept.store c.stand.new.measures (rw c.table.ensures at e.right) in
    record {
      knows = knows_inside kept c.stand.new.self (record kept.store { measures = c.stand.new.measures }) stack ts xs
          c.table.ensures c.assertions.ensures.value e.known grows c.requires;
      decided = live_as stack ts xs c.table.ensures c.assertions.ensures.value ∙ (rw c.in-Inside.is at e.ok);
      store = grows;
    }

pub returns-in-Outside : goal.returns-in-Outside
returns-in-Outside c =
    let kept = c.args.self.now in
    let stack = c.args.stack.now in
    let ts = c.table.result.now in
    let xs = c.assertions.result.now in
    let e = c.in_ok-standing.ensures in
    let grows = measured stack.table kept.store c.stand.new.measures (rw c.table.ensures at e.right) in
    record {
      knows = knows_inside kept c.stand.new.self (record kept.store { measures = c.stand.new.measures }) stack ts xs
          c.table.ensures c.assertions.ensures.value e.known grows c.requires;
      decided = live_as stack ts xs c.table.ensures c.assertions.ensures.value ∙ (rw c.in-Outside.is at e.ok).0;
      store = grows;
    }
