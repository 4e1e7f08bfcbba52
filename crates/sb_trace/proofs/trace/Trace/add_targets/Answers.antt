use Rattle.std.proofs.Common.{◌≡◌, ◌||◌, Bool, true, false, refl}
use Rattle.sb_graph.specs.Findings.{is_marked}
use Rattle.sb_trace.proofs.Closures.{grew_none, grew_both, target_at, met_more, met_all, from_more, from_all}
use Rattle.sb_trace.specs.Reaching.{is_member}
use Rattle.sb_trace.proofs.trace.Trace.add_targets.Goals as goal

or_none : (b : Bool) → b ≡ true → (b || false) ≡ true
or_none true h = refl
or_none false h = h

pub loop-target-init : goal.loop-target-init
loop-target-init c = record {
  grew = grew_none c.args.members.now.keys;
  met = refl;
  only = λ n h. or_none (is_member c.args.members.now.keys n) h;
  unburied = λ skips marks all h. h;
}

pub loop-target-preserved : goal.loop-target-preserved
loop-target-preserved c =
    let before = c.loop-target.invariant in
    let h = c.in_ok-add_target.ensures in
    let old = c.loop-target.members.keys in
    let new = c.add_target.new.members.keys in
    let item = c.loop-target-item.result in
    record {
      grew = grew_both c.args.members.now.keys old new before.grew h.grew;
      met = met_more c.args.skips c.args.self.now old new c.args.pieces.now c.loop-target.target-index item h.grew
          c.loop-target-test.true c.loop-target-item.is h.met before.met;
      only = from_more c.args.members.now.keys old new c.args.pieces.now c.loop-target.target-index item
          c.loop-target-test.true c.loop-target-item.is h.only before.only;
      unburied = λ skips marks all m.
          h.unburied skips marks
          (target_at (is_marked marks) c.args.pieces.now c.loop-target.target-index item all c.loop-target-test.true
          c.loop-target-item.is) (before.unburied skips marks all m);
    }

pub returns : goal.returns
returns c = let before = c.loop-target.invariant in
    record {
      met = met_all c.args.skips c.args.self.now c.loop-target.members.keys c.args.pieces.now
          c.loop-target.target-index c.loop-target-test.false before.met;
      grew = before.grew;
      only = from_all c.args.members.now.keys c.loop-target.members.keys c.args.pieces.now
          c.loop-target.target-index c.loop-target-test.false before.only;
      unburied = before.unburied;
    }
