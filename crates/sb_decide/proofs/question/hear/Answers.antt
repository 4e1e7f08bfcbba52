use Rattle.sb_decide.proofs.Words.{false≢true, top_falls}
use Rattle.sb_decide.proofs.Occurring.{walking_start, walking_within, walking_next, walking_done}
use Rattle.sb_decide.proofs.question.hear.Goals as goal

pub loop-id-init : goal.loop-id-init
loop-id-init c = (
  walking_start c.args.table.now c.args.assertions.now c.args.places.now c.as_slice.result.now c.new-left.result.keys
      c.put_all.new.left.keys c.args.serials.now.keys c.requires.numbers
      (rw c.as_slice.ensures.value c.in_ok-terms.ensures) c.new-left.ensures.empty c.in_ok-put_all.ensures,
  c.requires.measures,
)

pub take_apart-requires : goal.take_apart-requires
take_apart-requires c = record {
  number = walking_within c.args.table.now c.args.assertions.now c.args.places.now c.loop-id.left.keys
      c.pop_last.new.self.keys c.args.serials.now.keys c.loop-id.serials.keys c.in-Some.id
      c.in-Some.ensures.removal c.loop-id.invariant.0;
  measures = c.loop-id.invariant.1;
}

pub loop-id-preserved : goal.loop-id-preserved
loop-id-preserved c =
    let e = c.in_ok-take_apart.ensures in (
      walking_next c.args.table.now c.args.assertions.now c.args.places.now c.loop-id.left.keys
          c.pop_last.new.self.keys c.take_apart.new.left.keys c.args.serials.now.keys c.loop-id.serials.keys
          c.take_apart.new.serials.keys c.in-Some.id c.in-Some.ensures.removal e.apart c.loop-id.invariant.0,
      e.measures,
    )

pub loop-id-smaller : goal.loop-id-smaller
loop-id-smaller c =
    let apart = c.in_ok-take_apart.ensures.apart in
    top_falls c.loop-id.left.keys c.pop_last.new.self.keys c.take_apart.new.left.keys apart.parts c.in-Some.id
    c.in-Some.ensures.removal c.in-Some.ensures.all_below apart.below apart.puts

pub returns : goal.returns
returns c = record {
  hears = walking_done c.args.table.now c.args.assertions.now c.args.places.now c.loop-id.left.keys
      c.args.serials.now.keys c.loop-id.serials.keys (λ some. false≢true (c.in_default.ensures.variant.1 some))
      c.loop-id.invariant.0;
  measures = c.loop-id.invariant.1;
}
