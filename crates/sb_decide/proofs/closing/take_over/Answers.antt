use Rattle.sb_decide.proofs.Words.{length, ap, set, ◌∙◌, arith, Some, ◌<◌, All-pop, length-set}
use Rattle.sb_decide.proofs.KeptWords.{length-with_word}
use Rattle.sb_decide.proofs.TakingOver.{goes_on, no_items, over_all, settles}
use Rattle.sb_decide.proofs.closing.take_over.Goals as goal

pub put_word-requires : goal.put_word-requires
put_word-requires c =
    let low = (All-pop (λ one. one.serial.0 < length c.args.constants.now) c.loop-one.found.items
    c.pop.new.self.items (Some c.in-Some.one) c.in-Some.ensures.items c.loop-one.invariant.2).1 in
    omega (arith, low, c.loop-one.invariant.1, c.requires.long)

pub loop-one-preserved : goal.loop-one-preserved
loop-one-preserved c = (
  length-set c.loop-one.constants c.in-Some.one.serial.0 c.settle.new.self ∙ c.loop-one.invariant.0,
  ap length c.put_word.ensures ∙ length-with_word c.loop-one.words c.in-Some.one.serial.0 c.in-Some.one.word
      ∙ c.loop-one.invariant.1,
  (All-pop (λ one. one.serial.0 < length c.args.constants.now) c.loop-one.found.items c.pop.new.self.items
      (Some c.in-Some.one) c.in-Some.ensures.items c.loop-one.invariant.2).0,
  λ rs ms left t. goes_on rs ms left c.args.constants.now c.loop-one.constants _ c.loop-one.words c.put_word.new.words
      c.loop-one.found.items c.pop.new.self.items c.in-Some.one c.index-constants-place.result
      (c.loop-one.invariant.3 rs ms left t) c.in-Some.ensures.items c.index-constants-place.is
      (ap (set c.loop-one.constants c.in-Some.one.serial.0)
      (settles _ c.index-constants-place.result c.settle.new.self c.settle.ensures c.index-constants-place.is))
      c.put_word.ensures,
)

pub returns : goal.returns
returns c = λ rs ms left t.
    over_all rs ms left c.args.constants.now c.loop-one.constants c.loop-one.words c.loop-one.found.items
    (no_items c.loop-one.found c.in_default.ensures.cases.0) (c.loop-one.invariant.3 rs ms left t)
