use Rattle.std.proofs.Common.{◌≡◌, ◌<◌, ◌+◌, ◌-◌, length, take, sym, subst, ◌∙◌, arith}
use Rattle.sb_proof.specs.Lines.{value_in}
use Rattle.sb_models.specs.Knowing.{word_at}
use Rattle.sb_models.specs.Tried.{marks_of, text_in, texts_in}
use Rattle.sb_models.proofs.ValueFacts.{word_fails, words_next, AreWordsFrom}
use Rattle.sb_models.proofs.WordFacts.{AreRest, rest_next, rest_none, changes_both, none_taken}
use Rattle.sb_models.proofs.changes.put_all.Goals as goal

pub returns-then-not-branch-clause-known : goal.returns-then-not-branch-clause-known
returns-then-not-branch-clause-known c =
    sym (word_fails c.args.values.now (c.loop-place.place - 1) c.index-values-place.result
    (omega (arith, c.loop-place-test.true, c.loop-place.invariant.0)) c.index-values-place.is
    (sym c.in_ok-put_value.ensures.word ∙ c.if-not-branch.true))

pub loop-place-preserved : goal.loop-place-preserved
loop-place-preserved c =
    let low : c.loop-place.place - 1 < length c.args.values.now =
    omega (arith, c.loop-place-test.true, c.loop-place.invariant.0) in
    let place : c.loop-place.place ≡ (c.loop-place.place - 1) + 1 = omega (arith, c.loop-place-test.true) in (
      omega (arith, low),
      words_next c.args.values.now (c.loop-place.place - 1) c.index-values-place.result low c.index-values-place.is
          (sym c.in_ok-put_value.ensures.word ∙ c.if-not-branch.false)
          (subst (AreWordsFrom c.args.values.now) place c.loop-place.invariant.1),
      rest_next (λ v. text_in (value_in v)) c.args.constants.now c.args.values.now (word_at c.args.words.now.items)
          (word_at c.loop-place.words.items) (word_at c.put_value.new.words.items) (c.loop-place.place - 1) _ c.index-values-place.result c.requires low
          c.index-values-place.is
          (c.in_ok-put_value.ensures.put c.if-not-branch.false)
          (subst
          (λ n. AreRest c.args.constants.now (texts_in c.args.values.now) (word_at c.args.words.now.items)
          (take n (texts_in c.args.values.now)) (word_at c.loop-place.words.items)) place c.loop-place.invariant.2),
      changes_both c.args.words.now.items c.loop-place.words.items c.put_value.new.words.items
          (marks_of c.args.changed.now) (marks_of c.loop-place.changed) (marks_of c.put_value.new.changed)
          c.loop-place.invariant.3 (c.in_ok-put_value.ensures.changes c.if-not-branch.false),
    )

pub returns-clause-words : goal.returns-clause-words
returns-clause-words c = λ _.
    rest_none c.args.constants.now (texts_in c.args.values.now) (take c.loop-place.place (texts_in c.args.values.now))
    (word_at c.args.words.now.items) (word_at c.loop-place.words.items)
    (none_taken c.loop-place.place (texts_in c.args.values.now) (omega (arith, c.loop-place-test.false)))
    c.loop-place.invariant.2
