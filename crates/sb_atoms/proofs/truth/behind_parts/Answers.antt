use Rattle.std.proofs.Common.{arith}
use Rattle.sb_regex.specs.Numbered.{regex_at}
use Rattle.sb_regex.proofs.CallerLemmas.{extends_same, extends_more, names_below}
use Rattle.sb_problem.specs.Parts.{is_written, piece_in, parts_in}
use Rattle.sb_fragment.proofs.CallerLemmas.{all_at}
use Rattle.sb_atoms.proofs.Gathering.{mapped-within, mapped-read, mapped-done}
use Rattle.sb_atoms.proofs.TruthFacts.{behind_start, behind_more, behind_all}
use Rattle.sb_atoms.proofs.truth.behind_parts.Goals as goal

pub loop-part-init : goal.loop-part-init
loop-part-init c = (
  behind_start c.args.arena.now c.args.values.now (parts_in c.args.parts.now) c.args.regex c.requires.known,
  extends_same c.args.arena.now,
  c.requires.right,
)

pub behind_part-requires : goal.behind_part-requires
behind_part-requires c =
    let i = c.loop-part.part-index in
    let p = c.part-item.result in
    record {
      written = all_at is_written (parts_in c.args.parts.now) i (piece_in p) c.requires.written
          (mapped-within piece_in c.args.parts.now i c.loop-part-test.true)
          (mapped-read piece_in c.args.parts.now i p c.loop-part-test.true c.part-item.is);
      known = names_below c.loop-part.arena c.loop-part.rest _ c.loop-part.invariant.0.1;
      right = c.loop-part.invariant.2;
    }

pub loop-part-preserved : goal.loop-part-preserved
loop-part-preserved c =
    let i = c.loop-part.part-index in
    let p = c.part-item.result in (
      behind_more c.loop-part.arena c.behind_part.new.arena (regex_at c.args.arena.now c.args.regex)
          c.args.values.now (parts_in c.args.parts.now) i (piece_in p) c.loop-part.rest c.in_ok-rest.rest
          (mapped-within piece_in c.args.parts.now i c.loop-part-test.true)
          (mapped-read piece_in c.args.parts.now i p c.loop-part-test.true c.part-item.is)
          c.loop-part.invariant.0 c.in_ok-rest.ensures.ok,
      extends_more c.args.arena.now c.loop-part.arena c.behind_part.new.arena c.loop-part.invariant.1
          c.behind_part.ensures.extends,
      c.behind_part.ensures.right,
    )

pub returns-in_err-rest-clause-extends : goal.returns-in_err-rest-clause-extends
returns-in_err-rest-clause-extends c =
    extends_more c.args.arena.now c.loop-part.arena c.behind_part.new.arena c.loop-part.invariant.1
    c.behind_part.ensures.extends

pub returns : goal.returns
returns c = record {
  ok = behind_all c.loop-part.arena (regex_at c.args.arena.now c.args.regex) c.args.values.now
      (parts_in c.args.parts.now) c.loop-part.part-index c.loop-part.rest
      (mapped-done piece_in c.args.parts.now c.loop-part.part-index (omega (arith, c.loop-part-test.false)))
      c.loop-part.invariant.0;
  extends = c.loop-part.invariant.1;
  right = c.loop-part.invariant.2;
}
