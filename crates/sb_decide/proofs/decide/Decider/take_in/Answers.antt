use Rattle.sb_decide.proofs.Words.{◌≡◌, ◌≤◌, length, ◌∙◌, arith, sym, ap, subst, grows_both, grows_same}
use Rattle.sb_fragment.specs.declared.keeper.Fragment.{Fragment}
use Rattle.sb_fragment.specs.Inside.{AreInside}
use Rattle.sb_decide.proofs.Knowledge.{taken_roomy, kept_roomy}
use Rattle.sb_decide.proofs.MemberFacts.{members_few}
use Rattle.sb_decide.proofs.TakingOver.{live_as}
use Rattle.sb_decide.proofs.decide.Decider.take_in.Goals as goal

pub loop-assertions-init : goal.loop-assertions-init
loop-assertions-init c =
    let knows = c.requires.knows in
    let room = c.in_ok-make_room.ensures in
    let count : c.declared.result ≡ length c.args.stack.now.scope.sorts = c.declared.ensures.value in
    let more : length c.args.self.now.constants.items ≤ c.declared.result = omega (arith, count, knows.declared)
    in (
      record {
        inside = knows.inside;
        taken = taken_roomy c.args.self.now c.make_room.new.constants c.declared.result c.args.stack.now.table
            c.args.stack.now.assertions room more knows.taken;
        words = kept_roomy c.args.self.now.store.arena c.args.self.now.members.items c.args.self.now.constants.items
            c.make_room.new.constants.items c.declared.result c.args.stack.now.words room more knows.words;
        declared = omega (arith, room.long, count);
      },
      room.long ∙ count,
      grows_same c.args.stack.now.table c.args.self.now.store,
    )

pub loop-assertions-preserved : goal.loop-assertions-preserved
loop-assertions-preserved c =
    let before = c.loop-assertions.invariant in
    let e = c.in_ok-take_one.ensures in
    let kept = e.words c.args.stack.now.words before.0.words in (
      record {
        inside = subst (λ (f : Fragment). AreInside f.inside c.args.stack.now.table c.args.stack.now.assertions)
            (sym e.same) before.0.inside;
        taken = rw (c.table-table.ensures, c.assertions-assertions.ensures.value) at e.taken;
        words = kept.1;
        declared = omega (arith, kept.0, before.0.declared);
      },
      kept.0 ∙ before.1,
      grows_both _ _ _ _ before.2 (rw c.table-table.ensures at e.store),
    )

pub take_one-requires-clause-taken : goal.take_one-requires-clause-taken
take_one-requires-clause-taken c =
    rw (c.table-table.ensures, c.assertions-assertions.ensures.value) c.loop-assertions.invariant.0.taken

pub take_one-requires-clause-numbers : goal.take_one-requires-clause-numbers
take_one-requires-clause-numbers c =
    rw (c.table-table.ensures, c.assertions-assertions.ensures.value) c.assertions-assertions.ensures.numbers

pub take_one-requires-clause-decided : goal.take_one-requires-clause-decided
take_one-requires-clause-decided c =
    sym (live_as c.args.stack.now c.table-table.result.now c.assertions-assertions.result.now c.table-table.ensures
    c.assertions-assertions.ensures.value) ∙ c.requires.decided

pub returns : goal.returns
returns c =
    let now = c.loop-assertions.invariant in
    let few = members_few c.loop-assertions.self.store.arena c.args.stack.now.table
    c.loop-assertions.self.members.items c.args.stack.now.assertions now.0.taken.members in
    let same = ap length c.assertions-assertions.ensures.value in
    record {
      knows = now.0;
      all = (
        omega (arith, few, c.loop-assertions-test.false, c.len.ensures, same, c.loop-assertions.self.members.ok.0),
        now.1,
      );
      named = c.assertions-assertions.ensures.named;
      fit = c.declared.ensures.fit;
      store = now.2;
    }
