use Rattle.std.proofs.Common.{ap, ◌∙◌}
use Rattle.sb_hints.specs.Storing.{kept_in}
use Rattle.sb_hints.specs.Dropping.{kept_down_to}
use Rattle.sb_hints.proofs.Scoping.{fewer, scoped_end, scoped_popped, same_without}
use Rattle.sb_hints.proofs.levels.drop_highest.Goals as goal

pub returns-in_default-clause-all : goal.returns-in_default-clause-all
returns-in_default-clause-all c = λ _ ls h.
    scoped_end c.args.down_to (kept_in ls c.args.rows.now.items) _ (rw c.in_default.ensures.1 at h.scoped)
    c.in_default.ensures.0

pub returns-clause-fewer : goal.returns-clause-fewer
returns-clause-fewer c = λ _. fewer c.args.down_to _ _ c.in-Some.number c.in-Some.ensures

pub returns-clause-turn : goal.returns-clause-turn
returns-clause-turn c = λ ls h.
    let kept = kept_in ls c.args.rows.now.items in
    let is = c.drop_row.ensures.kept ls in
    record {
      same = ap (kept_down_to c.args.down_to) is ∙ same_without c.args.down_to c.in-Some.number kept;
      order = record {
        stored = c.drop_row.ensures.stored ls h.stored;
        scoped = rw is (scoped_popped c.args.down_to _ _ c.in-Some.number c.in-Some.ensures kept h.scoped);
      };
    }
