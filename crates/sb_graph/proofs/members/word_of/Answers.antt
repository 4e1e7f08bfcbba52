use Rattle.std.proofs.Common.{◌≡◌, ◌++◌, reverse, ap, sym, subst, ◌∙◌, arith}
use Rattle.sb_word.specs.Words.{IsWord}
use Rattle.sb_graph.specs.Queue.{word_at}
use Rattle.sb_graph.proofs.WalkSteps.{word_back, word_read, entry_is}
use Rattle.sb_graph.proofs.members.word_of.Goals as goal

pub loop-at-preserved : goal.loop-at-preserved
loop-at-preserved c =
    let e = entry_is c.args.queue.now c.loop-at.at c.at-before.result c.at-before.ensures in
    let b = c.requires.back c.loop-at.at c.loop-at-test.true c.loop-at.invariant.0 in (
      omega (arith, b, c.loop-at.invariant.0, ap (λ e. e.1.0) e),
      λ words w. word_back c.args.queue.now words c.args.place c.loop-at.at c.at-before.result c.loop-at.codes.items _ w
          c.loop-at-test.true c.loop-at.invariant.0 e c.in_ok-push.ensures.items (c.loop-at.invariant.1 words w),
    )

pub word_from-requires : goal.word_from-requires
word_from-requires c =
    let first : c.loop-at.at ≡ 0 = omega (arith, c.loop-at-test.false) in
    let codes = reverse c.loop-at.codes.items in
    subst IsWord (sym (c.deref.ensures.value ∙ c.reverse.ensures.items))
    (word_read c.args.queue.now c.args.place codes c.requires.word
    (λ words w. c.loop-at.invariant.1 words w ∙ ap (λ k. word_at words k ++ codes) first))

pub loop-at-smaller : goal.loop-at-smaller
loop-at-smaller c =
    let e = entry_is c.args.queue.now c.loop-at.at c.at-before.result c.at-before.ensures in
    let b = c.requires.back c.loop-at.at c.loop-at-test.true c.loop-at.invariant.0 in
    omega (arith, b, ap (λ e. e.1.0) e)
