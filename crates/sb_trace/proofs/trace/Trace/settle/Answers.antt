use Rattle.std.proofs.Common.{◌≡◌, ◌∷◌, ◌++◌, [], true, map, filter, is_some, sym, ap, ◌∙◌, refl}
use Rattle.std.proofs.lemmas.Result.{IfOk-from_err, err_from_is_err_and}
use Rattle.sb_regex.specs.Nodes.{node_parts}
use Rattle.sb_trace.specs.Tracking.{number_in}
use Rattle.sb_trace.specs.Defining.{is_lacking, IsNodeAt}
use Rattle.sb_trace.specs.Waiting.{waits, stack_of, Settles}
use Rattle.sb_trace.proofs.Positions.{none-false}
use Rattle.sb_trace.proofs.Puts.{regexes_none}
use Rattle.sb_trace.proofs.Stacks.{settles_numbered, settles_defined, settles_entered, top_known, on_ok, all_numbered}
use Rattle.sb_trace.proofs.Exits.{counts_none}
use Rattle.sb_trace.proofs.Growing.{stays_same}
use Rattle.sb_trace.proofs.trace.Trace.settle.Goals as goal

pub returns-then-has_number : goal.returns-then-has_number
returns-then-has_number g c =
    record {
      settles = settles_numbered c.args.arena.now c.args.self.now.order c.args.frame (stack_of c.args.stack.now.items)
          (sym (c.has_number.ensures ∙ ap (λ t. is_some (number_in t.order c.args.frame.regex)) c.self.view_is)
          ∙ c.if-has_number.true)
          c.requires;
      expanded_stay = λ n. refl;
      dead_stay = λ n. refl;
      puts = λ asked memo before tracks.
          regexes_none asked before c.args.arena.now memo c.args.self.now (g.L.Tape.told c.args.tape.now) tracks;
      stays = stays_same c.args.self.now;
      counts = refl;
    }

pub returns-then-frame-clause-settles : goal.returns-then-frame-clause-settles
returns-then-frame-clause-settles g c =
    let old = c.args.self.now.order in
    let new = c.define.new.self.order in
    let fs = stack_of c.args.stack.now.items in
    on_ok c.define.result (new ≡ old ++ c.args.frame.regex ∷ [])
    (Settles c.args.arena.now old new (c.args.frame ∷ fs) fs)
    (λ e. settles_defined c.args.arena.now old new c.args.frame fs
    (none-false (number_in old c.args.frame.regex)
    (sym (c.has_number.ensures ∙ ap (λ t. is_some (number_in t.order c.args.frame.regex)) c.self.view_is)
    ∙ c.if-has_number.false))
    e c.requires)
    c.define.ensures.added

pub returns : goal.returns
returns g c =
    record {
      settles = let parts = node_parts c.node-node.result.now in
          settles_entered c.args.arena.now c.args.self.now.order c.args.frame (stack_of c.args.stack.now.items)
          (stack_of c.wait_for_parts.new.stack.items) c.node-node.result.now c.normal_regexes_each_once.ensures.distinct
          (record {
            known = top_known c.args.arena.now c.args.self.now.order c.args.frame (stack_of c.args.stack.now.items)
                c.requires;
            regex = c.node-node.ensures.value;
            parts = c.node-node.ensures.parts;
          })
          c.if-frame.false
          (c.in_ok-wait_for_parts.ensures
          ∙ ap (λ fs. map waits (filter (is_lacking c.self.inside.order.keys) parts) ++ fs) c.in_ok-wait.ensures
          ∙ ap (λ t. map waits (filter (is_lacking t.order) parts) ++ (record {
            regex = c.args.frame.regex;
            entered =
                true;
          })
          ∷ stack_of c.args.stack.now.items) c.self.view_is)
          c.requires;
      expanded_stay = λ n. refl;
      dead_stay = λ n. refl;
      puts = λ asked memo before tracks.
          regexes_none asked before c.args.arena.now memo c.args.self.now (g.L.Tape.told c.args.tape.now) tracks;
      stays = stays_same c.args.self.now;
      counts = refl;
    }

pub returns-in_err-wait : goal.returns-in_err-wait
returns-in_err-wait g c =
    let x = c.from_residual in
    let p = err_from_is_err_and x.result x.ensures.1 in
    record {
      settles = IfOk-from_err x.result _ x.ensures.0;
      expanded_stay = λ n. refl;
      dead_stay = λ n. refl;
      puts = IfOk-from_err x.result _ x.ensures.0;
      stays = stays_same c.args.self.now;
      counts = counts_none x.result p.0 _ p.1 p.2;
    }

pub returns-in_err-wait_for_parts : goal.returns-in_err-wait_for_parts
returns-in_err-wait_for_parts g c =
    let x = c.from_residual-in_err-wait_for_parts in
    let p = err_from_is_err_and x.result x.ensures.1 in
    record {
      settles = IfOk-from_err x.result _ x.ensures.0;
      expanded_stay = λ n. refl;
      dead_stay = λ n. refl;
      puts = IfOk-from_err x.result _ x.ensures.0;
      stays = stays_same c.args.self.now;
      counts = counts_none x.result p.0 _ p.1 p.2;
    }

pub define-requires : goal.define-requires
define-requires g c =
    record {
      parts = all_numbered c.args.self.now.order (node_parts c.node-node.result.now)
          (c.requires.entered.0 c.if-frame.true c.node-node.result.now (record {
            known = top_known c.args.arena.now c.args.self.now.order c.args.frame (stack_of c.args.stack.now.items)
                c.requires;
            regex = c.node-node.ensures.value;
            parts = c.node-node.ensures.parts;
          }));
      new = none-false (number_in c.args.self.now.order c.args.frame.regex)
          (sym (c.has_number.ensures ∙ ap (λ t. is_some (number_in t.order c.args.frame.regex)) c.self.view_is)
          ∙ c.if-has_number.false);
    }

pub node-node-requires : goal.node-node-requires
node-node-requires g c =
    top_known c.args.arena.now c.args.self.now.order c.args.frame (stack_of c.args.stack.now.items) c.requires

pub returns-then-frame-clause-puts : goal.returns-then-frame-clause-puts
returns-then-frame-clause-puts g c =
    let at : IsNodeAt c.args.arena.now c.args.frame.regex c.node-node.result.now = record {
      known = top_known c.args.arena.now c.args.self.now.order c.args.frame (stack_of c.args.stack.now.items)
          c.requires;
      regex = c.node-node.ensures.value;
      parts = c.node-node.ensures.parts;
    } in
    on_ok c.define.result _ _
    (λ e asked memo before tracks. e asked c.args.arena.now memo before c.normal_regexes_each_once.ensures.distinct
    c.normal_regexes_each_once.ensures.normal at tracks) c.define.ensures.puts

pub returns-then-frame-clause-expanded_stay : goal.returns-then-frame-clause-expanded_stay
returns-then-frame-clause-expanded_stay g c = c.define.ensures.expanded_stay

pub returns-then-frame-clause-dead_stay : goal.returns-then-frame-clause-dead_stay
returns-then-frame-clause-dead_stay g c = c.define.ensures.dead_stay

pub returns-then-frame-clause-stays : goal.returns-then-frame-clause-stays
returns-then-frame-clause-stays g c = c.define.ensures.stays

pub returns-then-frame-clause-counts : goal.returns-then-frame-clause-counts
returns-then-frame-clause-counts g c = c.define.ensures.counts
