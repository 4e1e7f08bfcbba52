use Rattle.std.proofs.Common.{◌<◌, length, arith}
use Rattle.std.proofs.lemmas.Result.{IfOk-from_err}
use Rattle.sb_facts.proofs.CallerLemmas.{ok_then}
use Rattle.sb_regex.proofs.CallerLemmas.{extends_same}
use Rattle.sb_term.specs.Numbered.{term_at}
use Rattle.sb_problem.specs.Known.{is_known}
use Rattle.sb_problem.proofs.Keeping.{kept_known, known_something, knows_same, knows_both, knows_set, now_known, normals_set, parts_weaker}
use Rattle.sb_problem.proofs.Settling.{next_below, parts_known, settles_known, settles_entered}
use Rattle.sb_problem.proofs.normals.Normals.settle.Goals as goal

pub returns-in_default : goal.returns-in_default
returns-in_default c = record {
  settles = settles_known c.args.table.now c.args.self.now c.args.self.now c.args.waiting.now.items c.args.next
      (knows_same c.args.self.now)
      (kept_known c.args.self.now c.args.next.id c.kept.result c.kept.ensures c.in_default.not-Nothing)
      c.requires.waiting;
  extends = extends_same c.args.arena.now;
  normals = c.requires.normals;
}

pub learn-requires : goal.learn-requires
learn-requires c =
    let l = next_below c.args.table.now c.args.self.now c.args.waiting.now.items c.args.next c.requires.waiting in
    record {
      known = omega (arith, l, c.requires.normals.short);
      parts = parts_known c.args.table.now c.args.self.now c.args.waiting.now.items c.args.next c.if-next.true
          c.requires.waiting;
      normals = c.requires.normals;
    }

pub keep-requires : goal.keep-requires
keep-requires c =
    let l = next_below c.args.table.now c.args.self.now c.args.waiting.now.items c.args.next c.requires.waiting in
    omega (arith, l, c.in_ok-known.ensures.more.long)

pub returns-then-next : goal.returns-then-next
returns-then-next c =
    let ts = c.args.table.now in
    let ks = c.learn.new.self in
    let e = c.in_ok-known.ensures in
    let before = next_below ts c.args.self.now c.args.waiting.now.items c.args.next c.requires.waiting in
    let l : c.args.next.id < length ks = omega (arith, before, e.more.long) in
    let some = known_something c.learn.new.arena (term_at ts c.args.next.id) c.in_ok-known.known e.is in
    record {
      settles = settles_known ts c.args.self.now c.keep.new.self c.args.waiting.now.items c.args.next
          (knows_both c.args.self.now ks c.keep.new.self e.more
          (knows_set ks c.keep.new.self c.args.next.id c.in_ok-known.known l some c.keep.ensures))
          (now_known ks c.keep.new.self c.args.next.id c.in_ok-known.known l some c.keep.ensures) c.requires.waiting;
      extends = e.extends;
      normals = normals_set ts c.learn.new.arena c.learn.new.arena ks c.keep.new.self c.args.next.id
          c.in_ok-known.known e.normals (extends_same c.learn.new.arena) l e.is
          (λ h. parts_weaker ts (is_known c.args.self.now) (is_known ks) c.args.next.id e.more.kept
          (parts_known ts c.args.self.now c.args.waiting.now.items c.args.next c.if-next.true c.requires.waiting))
          c.keep.ensures;
    }

pub returns-in_err-known : goal.returns-in_err-known
returns-in_err-known c =
    let x = c.from_residual in
    let e = c.in_err-known.ensures in
    record {
      settles = IfOk-from_err x.result _ x.ensures.0;
      extends = e.extends;
      normals = e.normals;
    }

pub arguments_of-requires : goal.arguments_of-requires
arguments_of-requires c =
    let l = next_below c.args.table.now c.args.self.now c.args.waiting.now.items c.args.next c.requires.waiting in
    omega (arith, l, c.requires.normals.short)

pub returns : goal.returns
returns c = record {
  settles = ok_then c.enter.result _ _
      (λ e. settles_entered c.args.table.now c.args.self.now c.args.waiting.now.items c.enter.new.waiting.items
      c.args.next c.arguments_of.result.now c.terms_each_once.ensures c.requires.normals.short c.if-next.false
      c.arguments_of.ensures.terms c.arguments_of.ensures.below e c.requires.waiting)
      c.enter.ensures;
  extends = extends_same c.args.arena.now;
  normals = c.requires.normals;
}
