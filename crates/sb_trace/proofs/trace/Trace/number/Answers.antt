use Rattle.std.proofs.Common.{◌≡◌, [], ◌∷◌, None, is_some, refl, sym, ap, subst, inl, ◌∙◌, ◌<◌}
use Rattle.std.proofs.lemmas.Result.{IfOk-from_err, err_from_is_err_and}
use Rattle.sb_trace.specs.Tracking.{number_in, itself}
use Rattle.sb_trace.specs.Waiting.{stack_of, waits, numbers_in, is_in, AreLacking, IsStack, stack_weight}
use Rattle.sb_trace.proofs.Growing.{stays_same}
use Rattle.sb_trace.proofs.Positions.{number_from_index, number-there, numbered-stays}
use Rattle.sb_trace.proofs.Puts.{regexes_none, regexes_both, stays_both, traces_none}
use Rattle.sb_trace.proofs.Stacks.{stack_pushed, one_waits, one_is_in, adds_both}
use Rattle.sb_trace.specs.Putting.{CountsTapeFault}
use Rattle.sb_trace.proofs.Exits.{counts_none, counts_on}
use Rattle.sb_trace.proofs.trace.Trace.number.Goals as goal

pub returns-in-Some : goal.returns-in-Some
returns-in-Some g c =
    record {
      number = number-there c.args.self.now.order c.args.regex c.in-Some.number
          (ap (λ t. number_in t.order c.args.regex) (sym c.self.view_is)
          ∙ sym (number_from_index c.self.inside.order.keys c.args.regex c.get_index_of.result
          c.get_index_of.ensures.index)
          ∙ c.in-Some.is);
      first = ap (λ t. number_in t.order c.args.regex) (sym c.self.view_is)
          ∙ sym (number_from_index c.self.inside.order.keys c.args.regex c.get_index_of.result
          c.get_index_of.ensures.index)
          ∙ c.in-Some.is;
      expanded_stay = λ n. refl;
      dead_stay = λ n. refl;
      puts = λ asked memo before tracks.
          traces_none asked before c.args.arena.now memo c.args.self.now (g.L.Tape.told c.args.tape.now) tracks;
      defines = λ asked memo before tracks.
          regexes_none asked before c.args.arena.now memo c.args.self.now (g.L.Tape.told c.args.tape.now) tracks;
      only = λ n h. inl h;
      stays = stays_same c.args.self.now;
      counts = refl;
    }

pub returns : goal.returns
returns g c =
    let k = c.loop-frame.invariant in
    record {
      number = number-there c.loop-frame.self.order c.args.regex c.number_of.result
          (ap (λ t. number_in t.order c.args.regex) (sym c.self-2.view_is) ∙ c.number_of.ensures);
      first = ap (λ t. number_in t.order c.args.regex) (sym c.self-2.view_is) ∙ c.number_of.ensures;
      expanded_stay = k.expanded;
      dead_stay = k.dead;
      puts = λ asked memo before tracks.
          (c.loop-frame.invariant.puts asked memo before tracks).traced;
      defines = k.puts;
      only = k.only;
      stays = k.stays;
      counts = k.counts;
    }

pub loop-frame-init : goal.loop-frame-init
loop-frame-init g c =
    let rs = c.args.arena.now in
    let root = c.args.regex in
    let lacks : number_in c.args.self.now.order root ≡ None =
    ap (λ t. number_in t.order root) (sym c.self.view_is)
    ∙ sym (number_from_index c.self.inside.order.keys root c.get_index_of.result c.get_index_of.ensures.index)
    ∙ c.in_default.is in
    let stack : stack_of c.wait.new.stack.items ≡ waits root ∷ [] =
    c.in_ok-wait.ensures ∙ ap (λ frames. waits root ∷ stack_of frames) c.new-stack.ensures.items in
    record {
      stack = rw stack (one_waits rs c.args.self.now.order root c.requires);
      keeps = rw stack (one_is_in c.args.self.now.order root);
      puts = λ asked memo before tracks.
          regexes_none asked before rs memo c.args.self.now (g.L.Tape.told c.args.tape.now) tracks;
      lacking = rw stack (itself lacks, tt);
      only = λ n h. inl h;
      stays = stays_same c.args.self.now;
      expanded = λ n. refl;
      dead = λ n. refl;
      counts = refl;
    }

pub loop-frame-preserved : goal.loop-frame-preserved
loop-frame-preserved g c =
    let known = c.loop-frame.invariant in
    let turn = c.in_ok-settle.ensures in
    let rs = c.args.arena.now in
    let first = c.args.self.now.order in
    let frame = c.in-Some-pop.frame in
    let top = stack_pushed c.pop.new.self.items c.loop-frame.stack.items frame c.in-Some-pop.ensures.items in
    let waiting = subst (AreLacking rs first c.args.regex) top known.lacking in
    record {
      stack = turn.settles.stack;
      keeps = turn.settles.keeps c.args.regex
          (ap (λ fs. is_in c.loop-frame.self.order (numbers_in fs) c.args.regex) (sym top) ∙ known.keeps);
      puts = λ asked memo before tracks.
          regexes_both asked before rs memo c.loop-frame.self c.settle.new.self (g.L.Tape.told c.args.tape.now)
          (g.L.Tape.told c.loop-frame.tape) (g.L.Tape.told c.settle.new.tape) (known.puts asked memo before tracks)
          (λ after then. turn.puts asked memo after then);
      lacking = turn.settles.lacking first c.args.regex
          (λ n has. ap (λ order. is_some (number_in order n)) known.stays.1
          ∙ numbered-stays first known.stays.0 n has)
          waiting;
      only = adds_both rs first c.args.regex first c.loop-frame.self.order c.settle.new.self.order known.only
          (turn.settles.only first c.args.regex waiting);
      stays = stays_both c.args.self.now c.loop-frame.self c.settle.new.self known.stays turn.stays;
      expanded = λ n. turn.expanded_stay n ∙ known.expanded n;
      dead = λ n. turn.dead_stay n ∙ known.dead n;
      counts = turn.counts ∙ known.counts;
    }

pub returns-in_err-wait : goal.returns-in_err-wait
returns-in_err-wait g c =
    let x = c.from_residual in
    let p = err_from_is_err_and x.result x.ensures.1 in
    record {
      number = IfOk-from_err x.result _ x.ensures.0;
      first = IfOk-from_err x.result _ x.ensures.0;
      expanded_stay = λ n. refl;
      dead_stay = λ n. refl;
      puts = IfOk-from_err x.result _ x.ensures.0;
      defines = IfOk-from_err x.result _ x.ensures.0;
      only = IfOk-from_err x.result _ x.ensures.0;
      stays = stays_same c.args.self.now;
      counts = counts_none x.result p.0 _ p.1 p.2;
    }

pub returns-in_err-settle : goal.returns-in_err-settle
returns-in_err-settle g c =
    let x = c.from_residual-in_err-settle in
    let p = err_from_is_err_and x.result x.ensures.1 in
    let k = c.loop-frame.invariant in
    let s = c.settle.ensures in
    record {
      number = IfOk-from_err x.result _ x.ensures.0;
      first = IfOk-from_err x.result _ x.ensures.0;
      expanded_stay = λ n. s.expanded_stay n ∙ k.expanded n;
      dead_stay = λ n. s.dead_stay n ∙ k.dead n;
      puts = IfOk-from_err x.result _ x.ensures.0;
      defines = IfOk-from_err x.result _ x.ensures.0;
      only = IfOk-from_err x.result _ x.ensures.0;
      stays = stays_both c.args.self.now c.loop-frame.self c.settle.new.self k.stays s.stays;
      counts = subst (λ old. CountsTapeFault x.result old (g.L.Tape.faults c.settle.new.tape)) k.counts
          (counts_on (Unit {0}) x.result p.0 _ _ _ p.1 p.2 c.in_err-settle.ensures.counts);
    }

pub settle-requires : goal.settle-requires
settle-requires g c =
    let top = stack_pushed c.pop.new.self.items c.loop-frame.stack.items c.in-Some-pop.frame
    c.in-Some-pop.ensures.items in
    subst (IsStack c.args.arena.now c.loop-frame.self.order) top c.loop-frame.invariant.stack

pub loop-frame-smaller : goal.loop-frame-smaller
loop-frame-smaller g c =
    let top = stack_pushed c.pop.new.self.items c.loop-frame.stack.items c.in-Some-pop.frame
    c.in-Some-pop.ensures.items in
    subst (λ fs. stack_weight c.args.arena.now (stack_of c.settle.new.stack.items) < stack_weight c.args.arena.now fs)
    (sym top) c.in_ok-settle.ensures.settles.lighter
