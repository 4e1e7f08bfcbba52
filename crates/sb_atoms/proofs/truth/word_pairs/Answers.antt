use Rattle.std.proofs.Common.{refl, arith}
use Rattle.sb_regex.proofs.CallerLemmas.{extends_same, extends_more}
use Rattle.sb_meaning.specs.Terms.{Term}
use Rattle.sb_script.specs.Fragment.{is_word_pair}
use Rattle.sb_fragment.specs.Shapes.{terms_of_pairs}
use Rattle.sb_fragment.proofs.CallerLemmas.{all_at, number_at, pair_at, pair_within, pair_read}
use Rattle.sb_atoms.proofs.Walking.{wanted_more, wanted_stop, wanted_end}
use Rattle.sb_atoms.proofs.truth.word_pairs.Goals as goal

pub loop-one-init : goal.loop-one-init
loop-one-init c = (λ v bs gives. refl, extends_same c.args.arena.now, c.requires.ready)

pub word_equality-requires-clause-one : goal.word_equality-requires-clause-one
word_equality-requires-clause-one c =
    (number_at _ c.args.pairs.now c.loop-one.one-index c.loop-one-item.result c.requires.numbers c.loop-one-test.true
    c.loop-one-item.is).0

pub word_equality-requires-clause-other : goal.word_equality-requires-clause-other
word_equality-requires-clause-other c =
    (number_at _ c.args.pairs.now c.loop-one.one-index c.loop-one-item.result c.requires.numbers c.loop-one-test.true
    c.loop-one-item.is).1

pub word_equality-requires-clause-pair : goal.word_equality-requires-clause-pair
word_equality-requires-clause-pair c =
    let ts = c.args.table.now in
    let i = c.loop-one.one-index in
    let p = c.loop-one-item.result in
    all_at (λ (q : Term × Term). is_word_pair q.0 q.1) (terms_of_pairs ts c.args.pairs.now) i (pair_at ts p)
    c.requires.pairs (pair_within ts c.args.pairs.now i c.loop-one-test.true)
    (pair_read ts c.args.pairs.now i p c.loop-one-test.true c.loop-one-item.is)

pub loop-one-preserved : goal.loop-one-preserved
loop-one-preserved c = (
  wanted_more c.args.values.now c.args.distinct c.args.table.now c.args.pairs.now c.loop-one.one-index
      c.loop-one-item.result c.in_ok-equal.equal c.loop-one.invariant.0 c.loop-one-test.true c.loop-one-item.is
      c.in_ok-equal.ensures.ok c.if-equal-distinct.false,
  extends_more c.args.arena.now c.loop-one.arena c.word_equality.new.arena c.loop-one.invariant.1
      c.word_equality.ensures.extends,
  c.word_equality.ensures.ready,
)

pub returns-in_err-equal-clause-extends : goal.returns-in_err-equal-clause-extends
returns-in_err-equal-clause-extends c =
    extends_more c.args.arena.now c.loop-one.arena c.word_equality.new.arena c.loop-one.invariant.1
    c.word_equality.ensures.extends

pub returns-then-equal-distinct-clause-ok : goal.returns-then-equal-distinct-clause-ok
returns-then-equal-distinct-clause-ok c =
    wanted_stop c.args.values.now c.args.distinct c.args.table.now c.args.pairs.now c.loop-one.one-index
    c.loop-one-item.result c.in_ok-equal.equal c.loop-one-test.true c.loop-one-item.is c.in_ok-equal.ensures.ok
    c.if-equal-distinct.true

pub returns-then-equal-distinct-clause-extends : goal.returns-then-equal-distinct-clause-extends
returns-then-equal-distinct-clause-extends c =
    extends_more c.args.arena.now c.loop-one.arena c.word_equality.new.arena c.loop-one.invariant.1
    c.word_equality.ensures.extends

pub returns-clause-ok : goal.returns-clause-ok
returns-clause-ok c =
    wanted_end c.args.values.now c.args.distinct c.args.table.now c.args.pairs.now c.loop-one.one-index
    (omega (arith, c.loop-one-test.false)) c.loop-one.invariant.0
