use Rattle.std.proofs.Common.{◌-◌, length, ap, arith}
use Rattle.std.proofs.lemmas.List.{take_all}
use Rattle.std.proofs.lemmas.Result.{IfOk-from_err}
use Rattle.sb_regex.specs.Numbered.{regex_at, regexes_at}
use Rattle.sb_regex.specs.Spine.{chain}
use Rattle.sb_regex.proofs.CallerLemmas.{extends_same, extends_more, names_below, two_numbers}
use Rattle.sb_regex.proofs.Spines.{lean_normal, lean_next, lean_done, head_below}
use Rattle.sb_regex.proofs.arena.Arena.lean.Goals as goal

pub loop-left-init : goal.loop-left-init
loop-left-init c = (
  omega arith,
  extends_same c.args.self.now,
  c.requires.last,
  ap (λ xs. chain (regexes_at c.args.self.now xs) (regex_at c.args.self.now c.args.last))
      (take_all (length c.args.heads.now) c.args.heads.now (omega arith)),
)

pub bounds-heads-left : goal.bounds-heads-left
bounds-heads-left c = omega (arith, c.loop-left.invariant.0, c.loop-left-test.true)

pub intern-requires-clause-parts : goal.intern-requires-clause-parts
intern-requires-clause-parts c =
    two_numbers (length c.loop-left.self) c.index-heads-left.result c.loop-left.whole
    (head_below c.args.self.now c.loop-left.self c.args.heads.now (c.loop-left.left - 1) _
    (omega (arith, c.loop-left.invariant.0, c.loop-left-test.true)) c.index-heads-left.is c.requires.heads
    c.loop-left.invariant.1)
    c.loop-left.invariant.2

pub intern-requires-clause-normal : goal.intern-requires-clause-normal
intern-requires-clause-normal c =
    lean_normal c.args.self.now c.loop-left.self c.args.heads.now c.loop-left.left (c.loop-left.left - 1) _
    c.loop-left.whole _
    (omega (arith, c.loop-left-test.true)) (omega (arith, c.loop-left.invariant.0, c.loop-left-test.true))
    c.index-heads-left.is c.requires.heads c.loop-left.invariant.1 c.loop-left.invariant.3 c.requires.normal

pub returns-in_err-whole : goal.returns-in_err-whole
returns-in_err-whole c =
    let x = c.from_residual in
    record {
      ok = IfOk-from_err x.result _ x.ensures.0;
      extends = extends_more _ _ _ c.loop-left.invariant.1 c.intern.ensures.extends;
    }

pub loop-left-preserved : goal.loop-left-preserved
loop-left-preserved c = (
  omega (arith, c.loop-left.invariant.0),
  extends_more _ _ _ c.loop-left.invariant.1 c.in_ok-whole.ensures.extends,
  names_below _ _ _ c.in_ok-whole.ensures.ok,
  lean_next c.args.self.now c.loop-left.self c.intern.new.self c.args.heads.now c.loop-left.left (c.loop-left.left - 1)
      _ c.loop-left.whole _ _
      (omega (arith, c.loop-left-test.true)) (omega (arith, c.loop-left.invariant.0, c.loop-left-test.true))
      c.index-heads-left.is c.requires.heads c.loop-left.invariant.1 c.loop-left.invariant.3
      c.in_ok-whole.ensures.ok,
)

pub returns : goal.returns
returns c =
    record {
      ok = lean_done c.args.self.now c.loop-left.self c.args.heads.now c.loop-left.left c.loop-left.whole _
          (omega (arith, c.loop-left-test.false)) c.loop-left.invariant.2 c.loop-left.invariant.3;
      extends = c.loop-left.invariant.1;
    }
