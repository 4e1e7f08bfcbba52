use Rattle.std.proofs.Common.{◌^◌, ◌<◌, length, nat_eq, ap, subst, ◌∙◌, arith, ◌∷◌, [], sym, ◌≡◌, ℕ, List, ◌++◌}
use Rattle.std.proofs.lemmas.List.{append-nil}
use Rattle.std.proofs.lemmas.Result.{IfOk-from_err, err_from_is_err_and}
use Rattle.indexmap.specs.IndexSet.{insert_key}
use Rattle.sb_graph.specs.Findings.{is_marked}
use Rattle.sb_proof.specs.Lines.{node_in}
use Rattle.sb_trace.specs.Defining.{IsNodeIn}
use Rattle.sb_trace.proofs.Positions.{insert-missing}
use Rattle.sb_trace.proofs.RegexLines.{regex_put}
use Rattle.sb_trace.proofs.Exits.{counts_none, counts_on}
use Rattle.sb_trace.proofs.Rooms.{room_kept, room_used}
use Rattle.sb_trace.specs.Putting.{CountsTapeFault}
use Rattle.sb_trace.proofs.trace.Trace.define.Goals as goal

pub returns-clause-added : goal.returns-clause-added
returns-clause-added g c =
    insert-missing c.args.self.now.order c.add.new.regexes.keys c.args.regex c.requires.new
    (c.in_ok-add.ensures.ok ∙ ap (λ t. insert_key nat_eq t.order c.args.regex) c.self.view_is)

pub returns-clause-puts : goal.returns-clause-puts
returns-clause-puts g c = λ asked rs memo before once normal at tracks.
    let n = node_in c.in_ok-node.node in
    let order = ap (λ t. t.order) c.self.view_is in
    let long = ap length order in
    let small : length c.args.self.now.order < 2 ^ 64 =
    omega (arith, long, c.len-count.ensures.len, c.len-count.ensures.small) in
    regex_put asked rs memo c.args.self.now
    (record {
      order = c.add.new.regexes.keys;
      expanded = c.make_room.new.marks.items;
      dead = c.make_room-2.new.marks.items;
    })
    before c.args.node.now n c.args.regex (g.L.Tape.told c.args.tape.now) (g.L.Tape.told c.put_line.new.tape)
    c.order_tells_apart.ensures once normal at small
    (subst (λ o. IsNodeIn o c.args.node.now n) order c.in_ok-node.ensures)
    c.requires.new
    (insert-missing c.args.self.now.order c.add.new.regexes.keys c.args.regex c.requires.new
    (c.in_ok-add.ensures.ok ∙ ap (λ t. insert_key nat_eq t.order c.args.regex) c.self.view_is))
    (λ k. c.make_room.ensures.stay k ∙ ap (λ t. is_marked t.expanded k) c.self.view_is)
    (λ k. c.make_room-2.ensures.stay k ∙ ap (λ t. is_marked t.dead k) c.self.view_is)
    c.in_ok-put_line.ensures.told tracks

pub returns-in_err-make_room : goal.returns-in_err-make_room
returns-in_err-make_room g c =
    let x = c.from_residual in
    let p = err_from_is_err_and x.result x.ensures.1 in
    record {
      puts = IfOk-from_err x.result _ x.ensures.0;
      added = IfOk-from_err x.result _ x.ensures.0;
      expanded_stay = λ n. c.make_room.ensures.stay n ∙ ap (λ t. is_marked t.expanded n) c.self.view_is;
      dead_stay = λ n. ap (λ t. is_marked t.dead n) c.self.view_is;
      stays = ([], ap (λ t. t.order) c.self.view_is ∙ sym (append-nil c.args.self.now.order));
      counts = counts_none x.result p.0 _ p.1 p.2;
    }

pub returns-in_err-make_room-2 : goal.returns-in_err-make_room-2
returns-in_err-make_room-2 g c =
    let x = c.from_residual-in_err-make_room-2 in
    let p = err_from_is_err_and x.result x.ensures.1 in
    record {
      puts = IfOk-from_err x.result _ x.ensures.0;
      added = IfOk-from_err x.result _ x.ensures.0;
      expanded_stay = λ n. c.make_room.ensures.stay n ∙ ap (λ t. is_marked t.expanded n) c.self.view_is;
      dead_stay = λ n. c.make_room-2.ensures.stay n ∙ ap (λ t. is_marked t.dead n) c.self.view_is;
      stays = ([], ap (λ t. t.order) c.self.view_is ∙ sym (append-nil c.args.self.now.order));
      counts = counts_none x.result p.0 _ p.1 p.2;
    }

pub returns-in_err-node : goal.returns-in_err-node
returns-in_err-node g c =
    let x = c.from_residual-in_err-node in
    let p = err_from_is_err_and x.result x.ensures.1 in
    record {
      puts = IfOk-from_err x.result _ x.ensures.0;
      added = IfOk-from_err x.result _ x.ensures.0;
      expanded_stay = λ n. c.make_room.ensures.stay n ∙ ap (λ t. is_marked t.expanded n) c.self.view_is;
      dead_stay = λ n. c.make_room-2.ensures.stay n ∙ ap (λ t. is_marked t.dead n) c.self.view_is;
      stays = ([], ap (λ t. t.order) c.self.view_is ∙ sym (append-nil c.args.self.now.order));
      counts = counts_none x.result p.0 _ p.1 p.2;
    }

pub returns-in_err-put_line : goal.returns-in_err-put_line
returns-in_err-put_line g c =
    let x = c.from_residual-in_err-put_line in
    let p = err_from_is_err_and x.result x.ensures.1 in
    record {
      puts = IfOk-from_err x.result _ x.ensures.0;
      added = IfOk-from_err x.result _ x.ensures.0;
      expanded_stay = λ n. c.make_room.ensures.stay n ∙ ap (λ t. is_marked t.expanded n) c.self.view_is;
      dead_stay = λ n. c.make_room-2.ensures.stay n ∙ ap (λ t. is_marked t.dead n) c.self.view_is;
      stays = ([], ap (λ t. t.order) c.self.view_is ∙ sym (append-nil c.args.self.now.order));
      counts = counts_on (Unit {0}) x.result p.0 _ _ _ p.1 p.2 c.in_err-put_line.ensures.counts;
    }

pub returns-in_err-add : goal.returns-in_err-add
returns-in_err-add g c =
    let x = c.from_residual-in_err-add in
    let p = err_from_is_err_and x.result x.ensures.1 in
    record {
      puts = IfOk-from_err x.result _ x.ensures.0;
      added = IfOk-from_err x.result _ x.ensures.0;
      expanded_stay = λ n. c.make_room.ensures.stay n ∙ ap (λ t. is_marked t.expanded n) c.self.view_is;
      dead_stay = λ n. c.make_room-2.ensures.stay n ∙ ap (λ t. is_marked t.dead n) c.self.view_is;
      stays = ([], c.in_err-add.ensures.err ∙ ap (λ t. t.order) c.self.view_is ∙ sym (append-nil c.args.self.now.order));
      counts = subst (λ old. CountsTapeFault x.result old (g.L.Tape.faults c.put_line.new.tape))
          c.in_ok-put_line.ensures.counts (counts_none x.result p.0 _ p.1 p.2);
    }

pub returns-clause-expanded_stay : goal.returns-clause-expanded_stay
returns-clause-expanded_stay g c = λ n. c.make_room.ensures.stay n ∙ ap (λ t. is_marked t.expanded n) c.self.view_is

pub returns-clause-dead_stay : goal.returns-clause-dead_stay
returns-clause-dead_stay g c = λ n. c.make_room-2.ensures.stay n ∙ ap (λ t. is_marked t.dead n) c.self.view_is

pub returns-clause-stays : goal.returns-clause-stays
returns-clause-stays g c = (c.args.regex ∷ [], returns-clause-added g c)

pub returns-clause-counts : goal.returns-clause-counts
returns-clause-counts g c = c.in_ok-put_line.ensures.counts

pub invariant_of-self-2 : goal.invariant_of-self-2
invariant_of-self-2 g c =
    let order = ap (λ t. t.order) c.self.view_is in
    let added = returns-clause-added g c ∙ ap (λ (ks : List ℕ). ks ++ c.args.regex ∷ []) (sym order) in
    let count : c.len-count.result ≡ length c.self.inside.order.keys = c.len-count.ensures.len in
    room_used c.self.inside.order.keys c.add.new.regexes.keys c.args.regex c.make_room.new.marks.items
    c.make_room-2.new.marks.items added (omega (arith, count, c.in_ok-make_room.ensures.room))
    (omega (arith, count, c.in_ok-make_room-2.ensures.room))
    (room_kept c.self.inside.order.keys c.self.inside.expanded.items c.self.inside.dead.items
    c.make_room.new.marks.items c.make_room-2.new.marks.items c.make_room.ensures.long c.make_room-2.ensures.long
    c.make_room.ensures.stay c.make_room-2.ensures.stay c.self.invariant)

pub invariant_of-self-in_err-put_line : goal.invariant_of-self-in_err-put_line
invariant_of-self-in_err-put_line g c =
    room_kept c.self.inside.order.keys c.self.inside.expanded.items c.self.inside.dead.items
    c.make_room.new.marks.items c.make_room-2.new.marks.items c.make_room.ensures.long c.make_room-2.ensures.long
    c.make_room.ensures.stay c.make_room-2.ensures.stay c.self.invariant

pub invariant_of-self-in_err-node : goal.invariant_of-self-in_err-node
invariant_of-self-in_err-node g c =
    room_kept c.self.inside.order.keys c.self.inside.expanded.items c.self.inside.dead.items
    c.make_room.new.marks.items c.make_room-2.new.marks.items c.make_room.ensures.long c.make_room-2.ensures.long
    c.make_room.ensures.stay c.make_room-2.ensures.stay c.self.invariant
