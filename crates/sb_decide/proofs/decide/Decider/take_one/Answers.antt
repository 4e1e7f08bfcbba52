use Rattle.sb_decide.proofs.Words.{◌≡◌, Some, None, length, refl, sym, arith, ◌∷◌, [], length-append, ap, append-nil, subst, Grows, Member, Store, expression_in, false≢true, grows_same, term_at, with_items}
use Rattle.sb_decide.proofs.Constants.{put_some}
use Rattle.sb_decide.proofs.DemandFacts.{decided_kind}
use Rattle.sb_decide.proofs.Knowledge.{at_place, is_member, is_other, number_within, term_decided, serial_within, taken_grown, stay_grown, stay_put, taken_more}
use Rattle.sb_decide.proofs.TakingOver.{put_here, settled_through}
use Rattle.sb_decide.proofs.decide.Decider.take_one.Goals as goal

pub unreachable-requires : goal.unreachable-requires
unreachable-requires c =
    false≢true (term_decided c.args.table.now c.args.assertions.now _ c.index-assertions-place.result None
    c.requires.more (at_place c.args.self.now.members _ _ _ c.len-place.ensures c.index-assertions-place.is)
    c.in_default.is c.requires.decided)

pub demand_of-requires : goal.demand_of-requires
demand_of-requires c =
    number_within _ _ _ _ _ c.requires.numbers c.requires.more
    (at_place c.args.self.now.members _ _ _ c.len-place.ensures c.index-assertions-place.is) c.in-Some.is

pub returns-in_default-demand_of : goal.returns-in_default-demand_of
returns-in_default-demand_of c =
    let e = c.in_ok-take_other.ensures in
    let there = at_place c.args.self.now.members _ _ _ c.len-place.ensures c.index-assertions-place.is in
    record {
      taken = e.taken c.args.table.now c.args.assertions.now c.index-assertions-place.result c.requires.more there
          (is_other _ _ _ _ _ c.requires.numbers c.requires.more there c.in-Some.is
          c.in_default-demand_of.ensures.parts
          (term_decided _ _ _ _ (Some c.in-Some.term) c.requires.more there c.in-Some.is c.requires.decided))
          c.requires.taken;
      words = e.words;
      store = subst (λ (s : Store). Grows c.args.table.now c.args.self.now.store s) (sym e.same.0)
          (grows_same c.args.table.now c.args.self.now.store);
      further = e.further;
      same = e.same.1;
    }

pub regular_of-requires : goal.regular_of-requires
regular_of-requires c =
    let low = number_within _ _ _ _ _ c.requires.numbers c.requires.more
    (at_place c.args.self.now.members _ _ _ c.len-place.ensures c.index-assertions-place.is) c.in-Some.is in
    let demand = c.in-Some-demand_of in
    record {
      number = omega (arith, low, demand.ensures.smaller);
      regular = decided_kind (term_at c.args.table.now c.in-Some.term) demand.demand.serial.0
          (expression_in c.args.table.now demand.demand) demand.ensures.parts
          (term_decided _ _ _ _ (Some c.in-Some.term) c.requires.more
          (at_place c.args.self.now.members _ _ _ c.len-place.ensures c.index-assertions-place.is) c.in-Some.is
          c.requires.decided);
      store = c.requires.taken.store;
    }

pub put-requires : goal.put-requires
put-requires c =
    let demand = c.in-Some-demand_of in
    record {
      within = rw c.deref_mut.ensures.value
          (serial_within _ _ _ _ _ _ _ _ c.requires.serials c.requires.numbers c.requires.more
          (at_place c.args.self.now.members _ _ _ c.len-place.ensures c.index-assertions-place.is) c.in-Some.is
          demand.ensures.parts);
      listed = rw c.deref_mut.ensures.value c.requires.taken.counted.listed;
    }

pub returns : goal.returns
returns c =
    let demand = c.in-Some-demand_of in
    let e = c.in_ok-regex.ensures in
    let there = at_place c.args.self.now.members _ _ _ c.len-place.ensures c.index-assertions-place.is in
    let member : Member = record { serial = demand.demand.serial; regex = c.in_ok-regex.regex } in
    let place : c.len-place.result ≡ length c.args.self.now.members.items =
    omega (arith, c.len-place.ensures, c.args.self.now.members.ok.0) in
    let one = length-append c.args.self.now.members.items (Some member ∷ []) in
    let put = put_some member _ _ _
    (put_here c.args.self.now.constants _ _ _ _ _ c.deref_mut.ensures.value place c.in_ok-put.ensures.put) in
    record {
      taken = taken_more (record c.args.self.now { store = c.regular_of.new.store }) c.args.table.now
          c.args.assertions.now c.index-assertions-place.result (Some member) c.push.new.self c.push-2.new.self
          c.args.self.now.others (with_items c.args.self.now.constants c.put.new.constants) c.put.new.changed
          (taken_grown c.args.self.now _ _ _ e.store c.requires.taken) c.requires.more there
          (is_member _ _ _ _ _ member _ _ c.requires.numbers c.requires.more there c.in-Some.is demand.ensures.parts
          (term_decided _ _ _ _ (Some c.in-Some.term) c.requires.more there c.in-Some.is c.requires.decided)
          e.number)
          (serial_within _ _ _ _ _ _ _ _ c.requires.serials c.requires.numbers c.requires.more
          there c.in-Some.is demand.ensures.parts)
          c.in_ok-push.ensures.items c.in_ok-push-2.ensures.items (sym (append-nil c.args.self.now.others.items)) put
          (settled_through c.args.self.now.constants _ _ _ _ c.args.self.now.left.items c.put.new.changed.items
          c.deref_mut.ensures.value c.in_ok-put.ensures.put (c.in_ok-put.ensures.settled c.args.self.now.left.items
          (rw c.deref_mut.ensures.value c.requires.taken.counted.settled)))
          (rw c.deref_mut.ensures.value at c.in_ok-put.ensures.listed);
      words = stay_put c.args.self.now
          (record c.args.self.now {
            store = c.regular_of.new.store;
            members = c.push.new.self;
            roots = c.push-2.new.self;
            constants = with_items c.args.self.now.constants c.put.new.constants;
            changed = c.put.new.changed;
          })
          (Some member) (length c.args.self.now.members.items) c.in_ok-push.ensures.items put
          (stay_grown c.args.self.now _ _ _ e.store.more.extends c.requires.taken);
      store = e.store;
      further = omega (arith, ap length c.in_ok-push.ensures.items, one);
      same = refl;
    }
