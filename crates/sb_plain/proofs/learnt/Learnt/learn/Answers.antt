use Rattle.std.proofs.Common.{◌∙◌, ap, sym, get_or, None, arith}
use Rattle.std.proofs.lemmas.Result.{IfOk-from_err}
use Rattle.sb_regex.proofs.CallerLemmas.{extends_same, extends_more, number_kept}
use Rattle.sb_plain.proofs.Waiting.{deriving_init, deriving_step, turn_falls}
use Rattle.sb_plain.proofs.Remembering.{right_room}
use Rattle.sb_plain.proofs.learnt.Learnt.learn.Goals as goal

pub returns-in_err-make_room-clause-right : goal.returns-in_err-make_room-clause-right
returns-in_err-make_room-clause-right c =
    right_room c.args.arena.now c.args.self.now _ (ap (λ x. x.0) c.self.view_is)
    (λ n. c.in_err-make_room.ensures.same n ∙ ap (λ x. get_or x.1.0 n None) c.self.view_is)
    (ap (λ x. x.1.1) c.self.view_is) c.requires.right

pub loop-r-init : goal.loop-r-init
loop-r-init c =
    deriving_init c.args.arena.now _ c.args.c c.args.r c.new-waiting.result.keys (extends_same c.args.arena.now)
    (right_room c.args.arena.now c.args.self.now _ (ap (λ x. x.0) c.self.view_is)
    (λ n. c.in_ok-make_room.ensures.same n ∙ ap (λ x. get_or x.1.0 n None) c.self.view_is)
    (ap (λ x. x.1.1) c.self.view_is) c.requires.right)
    (omega (arith, c.number.ensures, c.in_ok-make_room.ensures.long)) c.new-waiting.ensures.empty

pub loop-r-preserved : goal.loop-r-preserved
loop-r-preserved c =
    let e = c.in_ok-_added.ensures in
    deriving_step c.args.arena.now c.loop-r.arena c.advance.new.arena c.loop-r.self c.advance.new.self c.args.c
    c.args.r c.loop-r.next c.unwrap_or-next.result c.loop-r.waiting.keys c.advance.new.waiting.keys
    c.pop_first.new.self.keys c.pop_first.result c.in_ok-_added._added (sym c.is_found.ensures ∙ c.loop-r-test.true)
    c.loop-r.invariant e.extends e.right e.long
    (record {
      elsewhere = e.elsewhere;
      added_is = e.added;
      same = e.same;
      waits = e.waits;
      wanted = e.wanted;
    })
    (record {
      next_is = c.unwrap_or-next.ensures;
      removal = c.pop_first.ensures.removal;
      above = c.pop_first.ensures.all_above;
      len = c.pop_first.ensures.len;
      variant = c.pop_first.ensures.variant.1;
    })

pub loop-r-smaller : goal.loop-r-smaller
loop-r-smaller c =
    let e = c.in_ok-_added.ensures in
    turn_falls c.args.arena.now c.loop-r.arena c.advance.new.arena c.loop-r.self c.advance.new.self c.args.c
    c.args.r c.loop-r.next c.unwrap_or-next.result c.loop-r.waiting.keys c.advance.new.waiting.keys
    c.pop_first.new.self.keys c.pop_first.result c.in_ok-_added._added (sym c.is_found.ensures ∙ c.loop-r-test.true)
    c.loop-r.invariant e.extends e.right e.long
    (record {
      elsewhere = e.elsewhere;
      added_is = e.added;
      same = e.same;
      waits = e.waits;
      wanted = e.wanted;
    })
    (record {
      next_is = c.unwrap_or-next.ensures;
      removal = c.pop_first.ensures.removal;
      above = c.pop_first.ensures.all_above;
      len = c.pop_first.ensures.len;
      variant = c.pop_first.ensures.variant.1;
    })

pub advance-requires : goal.advance-requires
advance-requires c =
    let i = c.loop-r.invariant in
    record {
      known = omega (arith, i.next_in, number_kept c.args.arena.now c.loop-r.arena c.args.r i.extends c.requires.known);
      character = c.requires.character;
      room = omega (arith, i.next_in, i.long);
      right = i.right;
    }

pub returns-in_err-_added : goal.returns-in_err-_added
returns-in_err-_added c =
    let x = c.from_residual-in_err-_added in
    record {
      done = IfOk-from_err x.result _ x.ensures.0;
      extends = extends_more c.args.arena.now c.loop-r.arena c.advance.new.arena c.loop-r.invariant.extends
          c.advance.ensures.extends;
      right = c.advance.ensures.right;
    }

pub returns-in_err-make_room-clause-extends : goal.returns-in_err-make_room-clause-extends
returns-in_err-make_room-clause-extends c = extends_same c.args.arena.now
