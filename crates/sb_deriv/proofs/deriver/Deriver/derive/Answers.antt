use Rattle.std.proofs.Common.{◌<◌, length, suc, sym, ap, ◌∙◌, arith}
use Rattle.std.proofs.lemmas.Result.{IfOk-from_err}
use Rattle.sb_deriv.specs.Faithful.{entry_of}
use Rattle.sb_deriv.proofs.Derivatives.{faithful_kept, constants_kept}
use Rattle.sb_deriv.proofs.Waiting.{deriving_init, deriving_step, measure_falls, no_entry}
use Rattle.sb_regex.proofs.CallerLemmas.{extends_more, number_kept}
use Rattle.sb_deriv.proofs.deriver.Deriver.derive.Goals as goal

pub loop-r-init : goal.loop-r-init
loop-r-init c =
    let l : c.args.r < length c.make_room.new.memo.items =
    omega (arith, c.number.ensures, c.in_ok-make_room.ensures.long) in (
      deriving_init c.args.arena.now c.constants.new.arena c.args.self.now c.make_room.new.memo.items c.args.r
          c.new-waiting.result.keys c.in_ok-constants.ensures.extends c.requires.faithful
          (λ n. c.in_ok-make_room.ensures.same n ∙ ap (λ x. entry_of x n) (c.self.view_is
          ∙ c.in_ok-constants.ensures.same)) l c.new-waiting.ensures.empty,
      c.in_ok-constants.ensures.ok,
    )

pub returns-in_err-constants-clause-faithful : goal.returns-in_err-constants-clause-faithful
returns-in_err-constants-clause-faithful c =
    rw (c.in_err-constants.ensures.same) (faithful_kept c.args.arena.now c.constants.new.arena c.args.self.now
    c.in_err-constants.ensures.extends c.requires.faithful)

pub returns-in_err-make_room-clause-faithful : goal.returns-in_err-make_room-clause-faithful
returns-in_err-make_room-clause-faithful c =
    λ n pieces h. faithful_kept c.args.arena.now c.constants.new.arena c.args.self.now
    c.in_ok-constants.ensures.extends c.requires.faithful n pieces
    (sym (c.make_room.ensures.same n ∙ ap (λ x. entry_of x n) (c.self.view_is ∙ c.in_ok-constants.ensures.same)) ∙ h)

pub loop-r-preserved : goal.loop-r-preserved
loop-r-preserved c =
    let w = c.in_ok-_added.ensures.wanted (suc c.args.r) (omega (arith, c.loop-r.invariant.0.next_in))
    c.loop-r.invariant.0.wanted c.loop-r.invariant.0.above in (
      deriving_step c.args.arena.now c.loop-r.arena c.advance.new.arena c.args.self.now c.loop-r.self c.advance.new.self
          c.args.r c.loop-r.next c.unwrap_or-next.result c.loop-r.waiting.keys c.advance.new.waiting.keys
          c.pop_first.new.self.keys c.pop_first.result c.loop-r.invariant.0 c.in_ok-_added.ensures.extends
          c.in_ok-_added.ensures.faithful c.in_ok-_added.ensures.kept c.in_ok-_added.ensures.long w
          c.unwrap_or-next.ensures c.pop_first.ensures.removal c.pop_first.ensures.all_above c.pop_first.ensures.len
          c.pop_first.ensures.variant.1,
      constants_kept c.loop-r.arena c.advance.new.arena c.in_ok-constants.constants c.in_ok-_added.ensures.extends
          c.loop-r.invariant.1,
    )

pub loop-r-smaller : goal.loop-r-smaller
loop-r-smaller c =
    let w = c.in_ok-_added.ensures.wanted (suc c.args.r) (omega (arith, c.loop-r.invariant.0.next_in))
    c.loop-r.invariant.0.wanted c.loop-r.invariant.0.above in
    let s = deriving_step c.args.arena.now c.loop-r.arena c.advance.new.arena c.args.self.now c.loop-r.self
    c.advance.new.self c.args.r c.loop-r.next c.unwrap_or-next.result c.loop-r.waiting.keys
    c.advance.new.waiting.keys c.pop_first.new.self.keys c.pop_first.result c.loop-r.invariant.0
    c.in_ok-_added.ensures.extends c.in_ok-_added.ensures.faithful c.in_ok-_added.ensures.kept
    c.in_ok-_added.ensures.long w c.unwrap_or-next.ensures c.pop_first.ensures.removal c.pop_first.ensures.all_above
    c.pop_first.ensures.len c.pop_first.ensures.variant.1 in
    measure_falls c.loop-r.self c.advance.new.self c.args.r c.loop-r.next c.unwrap_or-next.result
    c.advance.new.waiting.keys c.pop_first.new.self.keys c.pop_first.result c.in_ok-_added._added s.next_in
    c.in_ok-_added.ensures.added c.in_ok-_added.ensures.same c.in_ok-_added.ensures.waits c.unwrap_or-next.ensures
    c.pop_first.ensures.removal c.pop_first.ensures.all_above c.pop_first.ensures.variant.1

pub returns-in_err-_added : goal.returns-in_err-_added
returns-in_err-_added c =
    let x = c.from_residual-in_err-_added in
    let i = c.loop-r.invariant.0 in
    let e = c.advance.ensures in
    record {
      done = IfOk-from_err x.result _ x.ensures.0;
      extends = extends_more c.args.arena.now c.loop-r.arena c.advance.new.arena i.extends e.extends;
      faithful = e.faithful;
      kept = λ n pieces h. e.kept n pieces (i.kept n pieces h);
    }

pub advance-requires : goal.advance-requires
advance-requires c =
    let i = c.loop-r.invariant.0 in
    record {
      constants = c.loop-r.invariant.1;
      known = omega (arith, i.next_in, number_kept c.args.arena.now c.loop-r.arena c.args.r i.extends c.requires.known);
      room = omega (arith, i.next_in, i.long);
      lacks = i.next_lacks (no_entry (entry_of c.loop-r.self c.args.r) (sym c.is_known.ensures ∙ c.loop-r-test.true));
      faithful = i.faithful;
    }
