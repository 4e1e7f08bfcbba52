use Rattle.std.proofs.Common.{sym, ◌∙◌}
use Rattle.sb_deriv.proofs.PieceFacts.{covers_pushed, merged_pushed, value_pushed, targets_pushed, same_whole, same_value}
use Rattle.sb_deriv.proofs.pieces.push.Goals as goal

pub returns-then-ends_with-clause-whole : goal.returns-then-ends_with-clause-whole
returns-then-ends_with-clause-whole c =
    λ e l. same_whole c.args.target c.args.pieces.now.items c.args.first e
    (sym (rw c.deref.ensures.value at c.ends_with.ensures) ∙ c.if-ends_with.true) c.requires.whole l

pub returns-then-ends_with-clause-value : goal.returns-then-ends_with-clause-value
returns-then-ends_with-clause-value c =
    λ x. same_value c.args.target c.args.pieces.now.items c.args.first x
    (sym (rw c.deref.ensures.value at c.ends_with.ensures) ∙ c.if-ends_with.true) c.requires.whole

pub returns-clause-whole : goal.returns-clause-whole
returns-clause-whole c =
    λ e l. rw (c.in_ok-push.ensures.items)
    (covers_pushed c.args.pieces.now.items c.args.first c.args.target e c.requires.whole l)

pub returns-clause-merged : goal.returns-clause-merged
returns-clause-merged c =
    rw (c.in_ok-push.ensures.items)
    (merged_pushed c.args.pieces.now.items c.args.first c.args.target c.requires.merged
    (sym (rw c.deref.ensures.value at c.ends_with.ensures) ∙ c.if-ends_with.false))

pub returns-clause-value : goal.returns-clause-value
returns-clause-value c =
    λ x. rw (c.in_ok-push.ensures.items) (value_pushed 0 c.args.pieces.now.items c.args.first c.args.target x)

pub returns-clause-targets : goal.returns-clause-targets
returns-clause-targets c =
    λ n l h. rw (c.in_ok-push.ensures.items) (targets_pushed n c.args.pieces.now.items c.args.first c.args.target l h)
