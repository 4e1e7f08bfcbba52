use Rattle.std.proofs.Common.{◌-◌, ◌<◌, false, length, nat_lt, arith}
use Rattle.std.proofs.lemmas.Bool.{ltb-true}
use Rattle.sb_regex.proofs.CallerLemmas.{extends_same, extends_more}
use Rattle.sb_script.specs.Brought.{is_structure}
use Rattle.sb_script.specs.Fragment.{fits}
use Rattle.sb_term.specs.Numbered.{term_at}
use Rattle.sb_term.proofs.CallerLemmas.{none_known, parts_known, next_known, all_known}
use Rattle.sb_fragment.proofs.CallerLemmas.{all_at}
use Rattle.sb_atoms.specs.Truths.{IsTruthOf}
use Rattle.sb_atoms.specs.Reaching.{connected_parts}
use Rattle.sb_atoms.proofs.truth.find_truths.Goals as goal

pub loop-place-init : goal.loop-place-init
loop-place-init c = (
  omega arith,
  none_known false (λ i. IsTruthOf c.args.values.now c.args.truths.now (term_at c.args.table.now i))
      c.args.known.now.entries c.args.ids.now,
  extends_same c.args.arena.now,
  c.requires.ready,
)

pub truth_of-requires : goal.truth_of-requires
truth_of-requires c =
    let ts = c.args.table.now in
    let is = c.args.ids.now in
    let i = c.loop-place.place in
    let x = c.index-ids-place.result in
    let within : i - 1 < length is = omega (arith, c.loop-place.invariant.0, c.loop-place-test.true) in record {
      number = ltb-true x (length ts) (all_at (λ j. nat_lt j (length ts)) is (i - 1) x c.requires.numbers within
          c.index-ids-place.is);
      structure = all_at (λ j. is_structure (term_at ts j)) is (i - 1) x c.requires.structure within
          c.index-ids-place.is;
      fits = all_at (λ j. fits (term_at ts j)) is (i - 1) x c.requires.fits within c.index-ids-place.is;
      ready = c.loop-place.invariant.3;
      parts = parts_known connected_parts false (λ j. IsTruthOf c.args.values.now c.args.truths.now (term_at ts j))
          c.loop-place.known.entries ts is i x c.requires.parts c.loop-place-test.true c.loop-place.invariant.0
          c.index-ids-place.is c.loop-place.invariant.1;
    }

pub loop-place-preserved : goal.loop-place-preserved
loop-place-preserved c = (
  omega (arith, c.loop-place.invariant.0),
  next_known false (λ i. IsTruthOf c.args.values.now c.args.truths.now (term_at c.args.table.now i))
      c.loop-place.known.entries c.insert.new.self.entries c.args.ids.now c.loop-place.place c.index-ids-place.result
      c.in_ok-truth.truth c.loop-place-test.true c.loop-place.invariant.0 c.index-ids-place.is
      c.in_ok-insert.ensures.updates.0 c.in_ok-truth.ensures.ok c.loop-place.invariant.1,
  extends_more c.args.arena.now c.loop-place.arena c.truth_of.new.arena c.loop-place.invariant.2
      c.truth_of.ensures.extends,
  c.truth_of.ensures.ready,
)

pub returns-in_err-truth-clause-extends : goal.returns-in_err-truth-clause-extends
returns-in_err-truth-clause-extends c =
    extends_more c.args.arena.now c.loop-place.arena c.truth_of.new.arena c.loop-place.invariant.2
    c.truth_of.ensures.extends

pub returns-in_err-insert-clause-extends : goal.returns-in_err-insert-clause-extends
returns-in_err-insert-clause-extends c =
    extends_more c.args.arena.now c.loop-place.arena c.truth_of.new.arena c.loop-place.invariant.2
    c.truth_of.ensures.extends

pub returns : goal.returns
returns c = record {
  ok = all_known false (λ i. IsTruthOf c.args.values.now c.args.truths.now (term_at c.args.table.now i))
      c.loop-place.known.entries c.args.ids.now c.loop-place.place (omega (arith, c.loop-place-test.false))
      c.loop-place.invariant.1;
  extends = c.loop-place.invariant.2;
  ready = c.loop-place.invariant.3;
}
